-- What format leaves: it "wipes all words and writes the header, the root's table word, its descriptor and first structure, and the starting block as
-- block 8 with all rights, in hand, words 4 to 8 0. Entry 1 of the root is 8 ..; Root is current." Assumes nothing.
use Rattle.std.specs.Prelude.{List, [], ◌∷◌, ℕ, ◌+◌, ◌*◌, ◌/◌, replicate}
use Rattle.block_memory.specs.Geometry.{header_words, descriptor_words, root_of, first_byte, all_rights, first_number}
use Rattle.common.specs.Words.{overwrite}
use Rattle.block_memory.specs.Words.{put}

-- "0 W; 1 index of the root's descriptor; 2 first byte of the starting block; 3 index of the current partition's descriptor; the rest 0"
abbrev pub header : ℕ → List ℕ
header w = w ∷ root_of w ∷ first_byte w ∷ root_of w ∷ []

-- start, end, rights, use
abbrev pub starting_block : ℕ → List ℕ
starting_block w = first_byte w ∷ (4 * w) ∷ all_rights ∷ 1 ∷ []

-- memory of w words: entry 1 is descriptor word 8, structure 1 is descriptor word 16, and block 8 is the slot from structure word 2 on
unfoldable pub format : ℕ → List ℕ
format w =
    let m₁ = overwrite (replicate w 0) 0 (header w) in
    let m₂ = put m₁ (header_words + root_of w / 32) (root_of w) in
    let m₃ = put m₂ (root_of w + 8) first_number in
    let m₄ = put m₃ (root_of w + 16) (root_of w + descriptor_words) in
    overwrite m₄ (root_of w + descriptor_words + 2) (starting_block w)
