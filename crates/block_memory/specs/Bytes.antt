-- Which block has a byte. Assumes nothing.
use Rattle.std.specs.Prelude.{List, ◌≢◌, ℕ, ◌≤◌, ◌<◌}
use Rattle.block_memory.specs.Partition.{Partition, start, end, used}

module _ (m : List ℕ) where
  -- partition d has a block of the number n
  pub record Live (d n : ℕ) : Type 0 where
    pub partition : Partition m d
    pub block : used m d n ≢ 0

  -- .. that has the byte x
  pub record HasByte (d n x : ℕ) : Type 0 where
    pub live : Live d n
    pub from : start m d n ≤ x
    pub up_to : x < end m d n

  -- ".. in a block with use 1, 3 or 4"
  pub record Keeps (d n x : ℕ) : Type 0 where
    pub has : HasByte d n x
    pub not_lent : used m d n ≢ 2
