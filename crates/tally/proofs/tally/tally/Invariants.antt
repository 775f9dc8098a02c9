-- `tally::tally::tally` meets its contract. Assumes nothing.
use Prim.Native.Nat.{◌-◌, ◌*◌, ◌≤◌}
use mathlib.Core.Path.{◌≡◌}
use mathlib.Core.Option.{some}
use lib.ListN.{length}
use Rattle.walk.specs.Finite.{from}
use Rattle.walk.specs.Marks.{marks}
use Rattle.memory.specs.Geometry.{page_words}
use Rattle.soundness.specs.Test.{hand_pages}
use Rattle.judging.specs.Quick.{mapped_count, shut_count, due_count}
use Rattle.tally.specs.Run.{run, adding}
use Rattle.tally.specs.Bits.{marks_in}
use Rattle.tally.proofs.Laws.Rows.{row_step}
use Rattle.tally.proofs.Laws.Sweeps.{mapped_at, shut_at, due_at, hand_at}
use Rattle.tally.proofs.tally.tally.Given as goal

abbrev pub invariant-loop-i : goal.invariant-loop-i
invariant-loop-i l =
    (l.i-iterator.words.now ≡ l.dir) × (l.mapped ≤ 1024 * l.i-iterator.at) × (l.shut ≤ 1024 * l.i-iterator.at) × (l.due ≤ 13194139538432 * l.i-iterator.at)
    × (mapped_count l.b.bits l.m l.fn.d.0
    ≡ run (row_step l.b.bits l.m (adding (mapped_at l.b.bits l.m l.fn.d.0)) l.fn.d.0) l.mapped (from (page_words l.b.bits - l.i-iterator.at) l.i-iterator.at))
    × (shut_count l.b.bits l.m l.fn.d.0
    ≡ run (row_step l.b.bits l.m (adding (shut_at l.b.bits l.m l.fn.d.0)) l.fn.d.0) l.shut (from (page_words l.b.bits - l.i-iterator.at) l.i-iterator.at))
    × (due_count l.b.bits l.m l.fn.d.0
    ≡ run (row_step l.b.bits l.m (adding (due_at l.b.bits l.m l.fn.d.0)) l.fn.d.0) l.due (from (page_words l.b.bits - l.i-iterator.at) l.i-iterator.at))
    × (marks (marks_in l.initial.seen) (hand_pages l.b.bits l.m l.fn.d.0)
    ≡ run (row_step l.b.bits l.m (hand_at l.b.bits l.m l.fn.d.0) l.fn.d.0) (some (marks_in l.seen)) (from (page_words l.b.bits - l.i-iterator.at) l.i-iterator.at))
    × (length l.seen ≡ length l.initial.seen)
