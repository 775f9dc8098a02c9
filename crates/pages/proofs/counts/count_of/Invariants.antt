-- `pages::counts::count_of` meets its contract: the words that are left give what is left of the count. Assumes nothing.
use mathlib.Core.Path.{◌≡◌}
use Prim.Native.Nat.{◌+◌, ◌≤◌}
use lib.ListN.{drop}
use Rattle.walk.specs.Lists.{count}
use Rattle.pages.proofs.counts.count_of.Given as goal

abbrev pub invariant-loop-y : goal.invariant-loop-y
invariant-loop-y l = (l.k ≤ l.y-index) × (count l.x l.s ≡ l.k + count l.x (drop l.y-index l.s))
