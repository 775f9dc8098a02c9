-- `moves::pages_moved::return_all` meets its contract. To return the pages left, from the memory as it is, is to return them all. Assumes nothing.
use mathlib.Core.Path.{◌≡◌}
use lib.ListN.{drop}
use Rattle.rules.specs.Moves.{return_all}
use Rattle.moves.proofs.pages_moved.return_all.Given as goal

abbrev pub invariant-loop-v : goal.invariant-loop-v
invariant-loop-v l = return_all l.b.bits l.m l.d.0 (drop l.v-index l.vs) ≡ return_all l.b.bits l.initial.m l.d.0 l.vs
