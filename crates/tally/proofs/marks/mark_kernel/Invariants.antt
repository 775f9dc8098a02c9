-- `tally::marks::mark_kernel` meets its contract. Assumes nothing.
use mathlib.Core.Path.{◌≡◌}
use mathlib.Core.List.{◌++◌}
use lib.ListN.{length, drop}
use Rattle.memory.specs.Uses.{five_pages}
use Rattle.walk.specs.Marks.{marks}
use Rattle.soundness.specs.Test.{listed_pages}
use Rattle.tally.specs.Bits.{marks_in}
use Rattle.tally.proofs.marks.mark_kernel.Given as goal

abbrev pub invariant-loop-j : goal.invariant-loop-j
invariant-loop-j l =
    (length l.seen ≡ length l.initial.seen)
    × (marks (marks_in l.initial.seen) (five_pages l.b.bits l.m l.d.0 ++ listed_pages l.b.bits l.m l.d.0)
    ≡ marks (marks_in l.seen) (drop l.j (five_pages l.b.bits l.m l.d.0 ++ listed_pages l.b.bits l.m l.d.0)))
