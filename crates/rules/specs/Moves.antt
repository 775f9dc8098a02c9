-- Take and return: what is done to a page in the caller d and in each partition above it. Assumes nothing.
use Rattle.std.specs.Prelude.{List, [], ◌∷◌, Bool, true, cond, ◌||◌, ℕ, zero, suc, ◌+◌, eqb}
use Rattle.memory.specs.Geometry.{address, page_of, most_depth}
use Rattle.memory.specs.Words.{wipe}
use Rattle.memory.specs.Entry.{entry, rights, write_right, holds}
use Rattle.memory.specs.Partition.{parent, mapping, above, set_mapping}

-- "wipe it if it was a kernel page or if the caller holds write" (document 02, L3): kernel says whether it was one, w is the caller's page table word of it
abbrev pub wiped : Bool → ℕ → Bool
wiped kernel w = kernel || holds write_right w

module _ (b : ℕ) where
  -- accessible set (a = 1) or cleared (a = 0) "in the caller and each ancestor, following shadow 2": n partitions at most. The root has parent 0.
  unfoldable pub mark : ℕ → ℕ → List ℕ → ℕ → ℕ → List ℕ
  mark zero a m d v = m
  mark (suc n) a m d v =
      let w = mapping b m d v in
      let m' = set_mapping b m d v (entry b (page_of b w) a (rights w)) in
      let rest = mark n a m' (parent b m d) (above b m d v) in
      cond (eqb (parent b m d) 0) m' rest

  -- "Take": wipe, and clear accessible in the same places
  unfoldable pub take_page : List ℕ → ℕ → ℕ → List ℕ
  take_page m d v = mark (suc most_depth) 0 (wipe b m (page_of b (mapping b m d v))) d v

  -- "To return a page now means: set it accessible as before, and wipe it if .." (document 02, L3). A page that was no kernel page is accessible in the
  -- caller and each ancestor, so that there is nothing to set.
  unfoldable pub return_page : Bool → List ℕ → ℕ → ℕ → List ℕ
  return_page kernel m d v =
      let w = mapping b m d v in
      let m₁ = cond (wiped kernel w) (wipe b m (page_of b w)) m in
      cond kernel (mark (suc most_depth) 1 m₁ d v) m₁

  abbrev pub take_all : List ℕ → ℕ → List ℕ → List ℕ
  take_all m d [] = m
  take_all m d (v ∷ vs) = take_all (take_page m d v) d vs

  -- pages that were kernel pages
  abbrev pub return_all : List ℕ → ℕ → List ℕ → List ℕ
  return_all m d [] = m
  return_all m d (v ∷ vs) = return_all (return_page true m d v) d vs

  -- "pairs of virtual address in the parent and physical address", of pages of the caller d
  abbrev pub pairs : List ℕ → ℕ → List ℕ → List ℕ
  pairs m d [] = []
  pairs m d (v ∷ vs) = v ∷ address b (page_of b (mapping b m d v)) ∷ pairs m d vs

  -- how far d is below the root, counted up to n
  unfoldable pub depth : ℕ → List ℕ → ℕ → ℕ
  depth zero m d = 0
  depth (suc n) m d = let more = 1 + depth n m (parent b m d) in cond (eqb (parent b m d) 0) 0 more
