-- The tree of partitions. Assumes nothing.
use Rattle.std.specs.Prelude.{List, ◌≢◌, ℕ}
use Rattle.block_memory.specs.Partition.{root, Partition, parent}

-- t and "each partition below it", which are "its descendants and no others" (docs/BLOCKS.md): "A parent partition may have descendants when a child
-- partition also have its own children" (document 003). By the parents' words: a partition other than the root whose parent is t or below t.
pub data Below (m : List ℕ) (t : ℕ) : ℕ → Type 0 where
  self : Below m t t
  under : (u : ℕ) → Partition m u → u ≢ root m → Below m t (parent m u) → Below m t u
