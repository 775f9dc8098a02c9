-- The walk of the quick test looks at no more partitions than there are pages, on any memory, however its words point: each partition that it goes on
-- from marks a page that had no mark. It is a bound on the definition's walk, which the code's answer is proved equal to. Assumes that there is a page.
use mathlib.Core.List.{List}
use Prim.Native.Nat.{ℕ, suc, ◌≤◌, ◌<◌}
use native.Mathlib.Omega.{arith}
use Rattle.walk.specs.Walk.{clear}
use Rattle.walk.specs.Bound.{looks, looks-bound}
use Rattle.memory.specs.Geometry.{most_depth}
use Rattle.memory.specs.Partition.{pages}
use Rattle.memory.specs.Counts.{children}
use Rattle.soundness.specs.Test.{own}
use Rattle.soundness.proofs.Used.{own-length}
use Rattle.judging.specs.Quick.{partition_test}

pub looked_at : (b : ℕ) (m : List ℕ) → 0 < pages b m
    → looks (children b m) (own b m) (partition_test b m) (suc most_depth) (clear (pages b m)) 1 ≤ pages b m
looked_at b m h =
    looks-bound (children b m) (own b m) (partition_test b m) (λ d. omega (arith, own-length b m d)) (suc most_depth) (pages b m) 1 h
