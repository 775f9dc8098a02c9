-- `deleting::deleting::return_evens` meets its contract. To return the pairs left, from the memory as it is, is to return them all. The measure is what is
-- left. Assumes nothing.
use mathlib.Core.Path.{◌≡◌}
use Prim.Native.Nat.{◌-◌}
use lib.ListN.{length, drop}
use Rattle.rules.specs.Effects.{evens}
use Rattle.rules.specs.Moves.{return_all}
use Rattle.deleting.proofs.deleting.return_evens.Given as goal

abbrev pub invariant-loop-i : goal.invariant-loop-i
invariant-loop-i l = return_all l.b.bits l.m l.d.0 (evens (drop l.i l.ws)) ≡ return_all l.b.bits l.initial.m l.d.0 (evens l.ws)

abbrev pub decreases-loop-i : goal.decreases-loop-i
decreases-loop-i l = length l.ws - l.i
