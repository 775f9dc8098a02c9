-- `making::groups::twice` meets its contract. No address passed stands again behind it. Assumes nothing.
use mathlib.Core.Path.{◌≡◌}
use lib.ListN.{drop}
use Rattle.rules.specs.Conditions.{twice}
use Rattle.making.proofs.groups.twice.Given as goal

abbrev pub invariant-loop-i : goal.invariant-loop-i
invariant-loop-i l = twice (drop l.i l.vs) ≡ twice l.vs
