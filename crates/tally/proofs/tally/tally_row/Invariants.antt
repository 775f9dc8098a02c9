-- `tally::tally::tally_row` meets its contract. Assumes nothing.
use Prim.Native.Nat.{◌-◌}
use lib.ListN.{length}
use Rattle.tally.proofs.Laws.Tally.{Tallied}
use Rattle.tally.proofs.tally.tally_row.Given as goal

abbrev pub invariant-loop-j : goal.invariant-loop-j
invariant-loop-j l = Tallied l.b.bits l.m l.pt l.s1 l.initial.seen l.seen l.mapped l.shut l.due l.j

abbrev pub decreases-loop-j : goal.decreases-loop-j
decreases-loop-j l = length l.pt - l.j
