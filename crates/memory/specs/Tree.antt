-- The tree of partitions, as a proposition on the words. Assumes nothing.
use Rattle.std.specs.Prelude.{◌≡◌, List, ◌≢◌, ℕ, suc, ◌<◌}
use Rattle.memory.specs.Geometry.{address_end, address, page_of}
use Rattle.memory.specs.Partition.{pages, table_for, mapping, lent}

-- v is the address of a virtual page (0, which means none, is one)
abbrev pub Virtual : ℕ → ℕ → Type 0
Virtual b v = (address b (page_of b v) ≡ v) × (v < address_end b)

module _ (b : ℕ) (m : List ℕ) where
  -- a is the address of a physical page
  abbrev pub Physical : ℕ → Type 0
  Physical a = (address b (page_of b a) ≡ a) × (page_of b a < pages b m)

  -- partition d has tables for the virtual page at v
  pub record Has (d v : ℕ) : Type 0 where
    pub virtual : Virtual b v
    pub table : table_for b m d v ≢ 0

  -- c is the child of d that stands at v: a "shadow 1 word 1" and the page that it leads to
  pub record Child (d v c : ℕ) : Type 0 where
    pub has : Has d v
    pub present : mapping b m d v ≢ 0
    pub mark : lent b m d v ≡ 1
    pub page : page_of b (mapping b m d v) ≡ c

  -- "The tree's partitions are the root and each one that a shadow 1 word 1 of a partition in it leads to": d is k below the root
  pub data InTree : ℕ → ℕ → Type 0 where
    root : InTree 0 1
    child : {k d v c : ℕ} → InTree k d → Child d v c → InTree (suc k) c
