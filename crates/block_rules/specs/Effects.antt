-- The table's third column: what each call that isn't refused leaves in memory. d is the caller. Assumes nothing.
use Rattle.std.specs.Prelude.{List, [], ◌∷◌, Bool, cond, not, ◌&&◌, ◌||◌, ℕ, ◌+◌, ◌-◌, ◌*◌, eqb, length, replicate}
use Rattle.walk.specs.Finite.{keep}
use Rattle.block_memory.specs.Geometry.{table_index, descriptor_words, structure_words, slot_words}
use Rattle.common.specs.Words.{overwrite}
use Rattle.block_memory.specs.Words.{word, put, wipe, over}
use Rattle.block_memory.specs.Partition.{numbers, structure_numbers, entry_numbers, current, partitions, parent, level, entry, structure, put_slot, start, end}
use Rattle.block_memory.specs.Partition.{rights, used, child, link, source, next, place, named, holder, block_at, free_number, free_structure, empty_structure}
use Rattle.block_memory.specs.Partition.{entry_of}
use Rattle.block_memory.specs.Format.{format}
use Rattle.block_rules.specs.Call.{Service, Call, format_all, serve, create, delete, prepare, collect, add, remove, cut, merge, enable, read_enabled}
use Rattle.block_rules.specs.Call.{find, enter, leave}

-- "Disable n: every entry that is n becomes 0"
unfoldable pub disable : List ℕ → ℕ → ℕ → List ℕ
disable m d n = over (λ w e. cond (eqb (entry w d e) n) (put w (d + 7 + e) 0) w) m entry_numbers

-- "Take b as (u, c, l): disable it; its words 3, 4, 5 become u, c, l"
abbrev pub take_as : List ℕ → ℕ → ℕ → ℕ → ℕ → ℕ → List ℕ
take_as m d b u c l = put_slot (disable m d b) d b 3 (u ∷ c ∷ l ∷ [])

-- "Give back b: its words 3, 4, 5 become 1, 0, 0"
abbrev pub give_back : List ℕ → ℕ → ℕ → List ℕ
give_back m d b = put_slot m d b 3 (1 ∷ 0 ∷ 0 ∷ [])

-- the slot is wiped
abbrev pub free_slot : List ℕ → ℕ → ℕ → List ℕ
free_slot m d n = put_slot m d n 0 (replicate slot_words 0)

-- ---- create: "takes it as (3, 0, 0); descriptor words 0 to 2 are the caller, block, the caller's level + 1; enters it in the table"; "the words of what is
-- to stand in it are wiped and then filled"

unfoldable pub create_in : List ℕ → ℕ → ℕ → List ℕ
create_in m d b =
    let t = place m d b in
    let m₁ = take_as m d b 3 0 0 in
    let m₂ = overwrite m₁ t (d ∷ b ∷ (level m d + 1) ∷ replicate (descriptor_words - 3) 0) in
    put m₂ (table_index t) t

-- ---- delete: "wipes the structures and the descriptor of the child and of each partition below it, and their table words; gives back the block that the
-- child stood in and each block of the caller with child in word 4"

-- block n of d: the child c stands in it, or it is lent to c or holds a structure of c
abbrev pub of_child : List ℕ → ℕ → ℕ → ℕ → Bool
of_child m d c n = not (eqb (used m d n) 0) && (eqb n c || eqb (child m d n) c)

-- partition t is the child c of d or below it: "the partitions below a child are those whose descriptors stand in blocks that the caller lent to it"
abbrev pub goes_with : List ℕ → ℕ → ℕ → ℕ → Bool
goes_with m d c t = of_child m d c (block_at m d (4 * t))

unfoldable pub wipe_structures : List ℕ → ℕ → List ℕ
wipe_structures m t = over (λ w k. cond (eqb (structure m t k) 0) w (wipe w (structure m t k) structure_words)) m structure_numbers

unfoldable pub wipe_partition : List ℕ → ℕ → List ℕ
wipe_partition m t = put (wipe (wipe_structures m t) t descriptor_words) (table_index t) 0

unfoldable pub delete_child : List ℕ → ℕ → ℕ → List ℕ
delete_child m d c =
    let m₁ = over wipe_partition m (keep (goes_with m d c) (partitions m)) in
    over (λ w n. give_back w d n) m₁ (keep (of_child m d c) numbers)

-- ---- prepare: "takes it as (4, partition, k), k the lowest that the partition has no structure for; its word 0 is block, its word 1 1 for the caller itself
-- and 0 for a child; enters it as structure k"

unfoldable pub prepare_for : List ℕ → ℕ → ℕ → ℕ → List ℕ
prepare_for m d p b =
    let t = named m d p in
    let k = free_structure m t in
    let s = place m d b in
    let m₁ = take_as m d b 4 p k in
    let m₂ = overwrite m₁ s (b ∷ cond (eqb p 0) 1 0 ∷ replicate (structure_words - 2) 0) in
    put m₂ (t + 15 + k) s

-- ---- collect: "wipes the structure of lowest k whose eight slots are free, and descriptor word 15+k; gives back its block in the pool that has it"

unfoldable pub collect_from : List ℕ → ℕ → List ℕ
collect_from m t =
    let k = empty_structure m t in
    let s = structure m t k in
    let m₁ = put (wipe m s structure_words) (t + 15 + k) 0 in
    give_back m₁ (holder m t s) (word m s)

-- ---- add: "slot of the child's free number n: block's start and end, rights, 1, 0, 0, block, 0, 0; disables block, its words 3 to 5 are 2, child, n"

unfoldable pub add_to : List ℕ → ℕ → ℕ → ℕ → ℕ → List ℕ
add_to m d c b r =
    let t = place m d c in
    let n = free_number m t in
    let m₁ = put_slot m t n 0 (start m d b ∷ end m d b ∷ r ∷ 1 ∷ 0 ∷ 0 ∷ b ∷ 0 ∷ 0 ∷ []) in
    take_as m₁ d b 2 c n

-- ---- remove: "in the child, disables the block of the number in link and wipes its slot; gives back block"

unfoldable pub remove_from : List ℕ → ℕ → ℕ → ℕ → List ℕ
remove_from m d c b =
    let t = place m d c in
    let n = link m d b in
    give_back (free_slot (disable m t n) t n) d b

-- ---- cut: "slot of the free number n: address, block's end, rights, 1, 0, 0, its source, block, its next; that next, if any, has n as previous; block's end
-- is address, its next n". Where next is 0 there is no slot to write to.

unfoldable pub cut_at : List ℕ → ℕ → ℕ → ℕ → List ℕ
cut_at m d b x =
    let n = free_number m d in
    let m₁ = put_slot m d n 0 (x ∷ end m d b ∷ rights m d b ∷ 1 ∷ 0 ∷ 0 ∷ source m d b ∷ b ∷ next m d b ∷ []) in
    let m₂ = put_slot m₁ d (next m d b) 7 (n ∷ []) in
    put_slot (put_slot m₂ d b 1 (x ∷ [])) d b 8 (n ∷ [])

-- ---- merge: "the lower gets the higher's end and next; that next, if any, has the lower as previous; disables the higher and wipes its slot"

abbrev pub lower : List ℕ → ℕ → ℕ → ℕ → ℕ
lower m d a b = cond (eqb (next m d a) b) a b

abbrev pub higher : List ℕ → ℕ → ℕ → ℕ → ℕ
higher m d a b = cond (eqb (next m d a) b) b a

unfoldable pub merge_two : List ℕ → ℕ → ℕ → ℕ → List ℕ
merge_two m d l h =
    let m₁ = put_slot (put_slot m d l 1 (end m d h ∷ [])) d l 8 (next m d h ∷ []) in
    let m₂ = put_slot m₁ d (next m d h) 7 (l ∷ []) in
    free_slot (disable m₂ d h) d h

-- ---- enable: "on 0 disables block. Else the lowest entry that is 0 becomes block, unless an entry is block already."

unfoldable pub enable_in : List ℕ → ℕ → ℕ → ℕ → List ℕ
enable_in m t b on =
    let m₁ = disable m t b in
    let m₂ = put m (t + 7 + entry_of m t 0) b in
    cond (eqb on 0) m₁ (cond (eqb (entry_of m t b) 0) m₂ m)

-- ---- all of them

module _ (m : List ℕ) where
  unfoldable pub effect_of : ℕ → Service → List ℕ
  effect_of d (create b) = create_in m d b
  effect_of d (delete c) = delete_child m d c
  effect_of d (prepare p b) = prepare_for m d p b
  effect_of d (collect p) = collect_from m (named m d p)
  effect_of d (add c b r) = add_to m d c b r
  effect_of d (remove c b) = remove_from m d c b
  effect_of d (cut b x) = cut_at m d b x
  effect_of d (merge a b) = merge_two m d (lower m d a b) (higher m d a b)
  effect_of d (enable p b on) = enable_in m (named m d p) b on
  effect_of d (read_enabled p e) = m
  effect_of d (find p x) = m
  -- "current is child"; "current is parent"
  effect_of d (enter c) = put m 3 (place m d c)
  effect_of d leave = put m 3 (parent m d)

  unfoldable pub effect : Call → List ℕ
  effect format_all = format (length m)
  effect (serve s) = effect_of (current m) s
