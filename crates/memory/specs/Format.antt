-- What format leaves, word by word: "Format wipes all words, writes the header, root descriptor page 1, directory 2, shadow 1 page 3, shadow 2
-- page 4, list 5, threes from page 6". Assumes nothing.
use Rattle.std.specs.Prelude.{List, [], ◌∷◌, cond, ◌&&◌, ℕ, ◌+◌, ◌-◌, ◌*◌, ◌/◌, ◌%◌, leb, ltb, eqb, get_or}
use Rattle.memory.specs.Geometry.{edition_of, page_words, address, threes_for, flat_pages}
use Rattle.memory.specs.Words.{tabulate}
use Rattle.memory.specs.Entry.{entry, all_rights}

module _ (b : ℕ) where
  -- "word 0 N; 1 T; 2 byte offset of the root descriptor (256); 3 byte offset of the first root page, 256(6+3T);
  --  4 physical address of the current partition's descriptor; the rest 0"; "Root is current."
  -- Document 02, L4: "Page 0 word 5 is 0 for the old edition and 1 for this".
  abbrev pub header_word : ℕ → ℕ → ℕ
  header_word n i = get_or (n ∷ threes_for b n ∷ address b 1 ∷ address b (6 + 3 * threes_for b n) ∷ address b 1 ∷ edition_of b ∷ []) i 0

  -- "The root's virtual addresses in descriptor and list are 0, its parent 0."
  abbrev pub root_descriptor_word : ℕ → ℕ
  root_descriptor_word i =
      get_or (0 ∷ address b 1 ∷ 0 ∷ address b 2 ∷ 0 ∷ address b 3 ∷ 0 ∷ address b 4 ∷ 0 ∷ address b 5 ∷ 0 ∷ 0 ∷ []) i 0

  -- "word i is 0 or a table's physical address + 1"; three i is pages 6+3i, 7+3i, 8+3i: k is 0 for the directory, 1 and 2 for the shadows
  abbrev pub root_directory_word : ℕ → ℕ → ℕ → ℕ
  root_directory_word n k i = cond (ltb i (threes_for b n)) (address b (6 + 3 * i + k) + 1) 0

  -- "word 0 first free word index, 1+6n with n threes; then pairs (virtual in parent, physical)": pair j is words 1+2j and 2+2j
  abbrev pub root_list_word : ℕ → ℕ → ℕ
  root_list_word n i =
      cond (eqb i 0) (1 + 6 * threes_for b n)
      (cond (eqb (i % 2) 0 && leb i (6 * threes_for b n)) (address b (5 + i / 2)) 0)

  -- "maps virtual page v (1 to F) to page 5+3T+v with all rights, accessible"
  abbrev pub root_table_word : ℕ → ℕ → ℕ
  root_table_word n v = cond (leb 1 v && leb v (flat_pages b n)) (entry b (5 + 3 * threes_for b n + v) 1 all_rights) 0

  -- word i of page p
  unfoldable pub format_word : ℕ → ℕ → ℕ → ℕ
  format_word n p i =
      cond (eqb p 0) (header_word n i)
      (cond (eqb p 1) (root_descriptor_word i)
      (cond (ltb p 5) (root_directory_word n (p - 2) i)
      (cond (eqb p 5) (root_list_word n i)
      (cond (ltb p (6 + 3 * threes_for b n) && eqb (p % 3) 0) (root_table_word n ((p - 6) / 3 * page_words b + i))
      0))))

  unfoldable pub format : ℕ → List ℕ
  format n = tabulate 0 (n * page_words b) (λ j. format_word n (j / page_words b) (j % page_words b))
