-- `moves::pages_moved::take_all` meets its contract. To take the pages left, from the memory as it is, is to take them all. Assumes nothing.
use mathlib.Core.Path.{◌≡◌}
use lib.ListN.{drop}
use Rattle.rules.specs.Moves.{take_all}
use Rattle.moves.proofs.pages_moved.take_all.Given as goal

abbrev pub invariant-loop-v : goal.invariant-loop-v
invariant-loop-v l = take_all l.b.bits l.m l.d.0 (drop l.v-index l.vs) ≡ take_all l.b.bits l.initial.m l.d.0 l.vs
