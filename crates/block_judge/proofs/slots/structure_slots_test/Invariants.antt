-- `block_judge::slots::structure_slots_test` meets its contract: the numbers that are left of the eight pass where all of them do. Assumes nothing.
use mathlib.Core.Path.{◌≡◌}
use Prim.Native.Nat.{◌+◌, ◌*◌}
use Rattle.walk.specs.Finite.{from, all}
use Rattle.block_memory.proofs.Loops.{left}
use Rattle.block_judge.proofs.Eights.{slot_or}
use Rattle.block_judge.proofs.slots.structure_slots_test.Given as goal

abbrev pub invariant-loop-n : goal.invariant-loop-n
invariant-loop-n l = all (slot_or l.m l.d) (left (8 * l.k + 8) l.n) ≡ all (slot_or l.m l.d) (from 8 (8 * l.k))
