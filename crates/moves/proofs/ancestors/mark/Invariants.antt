-- `moves::ancestors::mark` meets its contract. What is left of the walk, from the partition that is reached, comes to the whole walk. Assumes nothing.
use mathlib.Core.Path.{◌≡◌}
use Prim.Native.Nat.{◌-◌}
use Rattle.rules.specs.Moves.{mark}
use Rattle.moves.proofs.ancestors.mark.Given as goal

abbrev pub invariant-loop : goal.invariant-loop
invariant-loop l = mark l.b.bits (9 - l.counter) l.bit l.m l.d.0 l.v ≡ mark l.b.bits 9 l.bit l.initial.m l.initial.d.0 l.initial.v
