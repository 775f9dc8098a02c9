-- One entry, which becomes 0 where it is n. Assumes nothing.
use mathlib.Core.List.{List}
use mathlib.Core.Bool.{cond}
use Prim.Native.Nat.{ℕ, ◌+◌}
use lib.Dec.{eqb}
use Rattle.block_memory.specs.Words.{put}
use Rattle.block_memory.specs.Partition.{entry}

abbrev pub disabled : ℕ → ℕ → List ℕ → ℕ → List ℕ
disabled d n m e = cond (eqb (entry m d e) n) (put m (d + 7 + e) 0) m
