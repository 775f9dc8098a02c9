-- `block_judge::slots::slots_test` meets its contract. What is left of the numbers passes where all of them do. Assumes nothing.
use mathlib.Core.Path.{◌≡◌}
use Prim.Native.Nat.{◌*◌}
use Rattle.walk.specs.Finite.{all}
use Rattle.block_memory.specs.Partition.{numbers}
use Rattle.block_memory.proofs.Loops.{left}
use Rattle.block_judge.proofs.Eights.{slot_or}
use Rattle.block_judge.proofs.slots.slots_test.Given as goal

abbrev pub invariant-loop-k : goal.invariant-loop-k
invariant-loop-k l = all (slot_or l.m l.d) (left 136 (8 * l.k)) ≡ all (slot_or l.m l.d) numbers
