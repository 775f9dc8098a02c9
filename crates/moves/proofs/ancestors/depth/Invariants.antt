-- `moves::ancestors::depth` meets its contract. The partitions passed and the depth of the one that is reached come to the depth. Assumes nothing.
use mathlib.Core.Path.{◌≡◌}
use Prim.Native.Nat.{◌+◌, ◌-◌}
use Rattle.rules.specs.Moves.{depth}
use Rattle.moves.proofs.ancestors.depth.Given as goal

abbrev pub invariant-loop-k : goal.invariant-loop-k
invariant-loop-k l = l.k + depth l.b.bits (l.n - l.k) l.m l.d.0 ≡ depth l.b.bits l.n l.m l.initial.d.0
