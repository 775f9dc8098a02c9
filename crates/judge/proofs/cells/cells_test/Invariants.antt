-- `judge::cells::cells_test` meets its contract. Assumes nothing.
use Prim.Native.Nat.{◌-◌}
use mathlib.Core.Path.{◌≡◌}
use mathlib.Core.Bool.{true}
use Rattle.walk.specs.Finite.{from, all}
use Rattle.memory.specs.Geometry.{page_words}
use Rattle.memory.specs.Words.{page}
use Rattle.memory.specs.Partition.{directory}
use Rattle.memory.specs.Counts.{tabled}
use Rattle.judging.specs.Quick as Quick
use Rattle.judging.specs.Quick.{cell, sources}
use Rattle.tally.specs.Run.{run, asking}
use Rattle.tally.proofs.Laws.Rows.{row_step}
use Rattle.tally.proofs.Laws.Sweeps.{above_at}
use Rattle.judge.proofs.cells.cells_test.Given as goal

abbrev pub invariant-loop-i : goal.invariant-loop-i
invariant-loop-i l =
    (l.i-iterator.words.now ≡ l.dir)
    × ((l.dir ≡ page l.b.bits l.m (directory l.b.bits l.m l.a.descriptor.0))
    → (all (cell l.b.bits l.m l.a.descriptor.0) (tabled l.b.bits l.m l.a.descriptor.0)
    ≡ run (row_step l.b.bits l.m (asking (cell l.b.bits l.m l.a.descriptor.0)) l.a.descriptor.0) true
    (from (page_words l.b.bits - l.i-iterator.at) l.i-iterator.at))
    × (Quick.top 0 (sources l.b.bits l.m l.a.descriptor.0)
    ≡ run (row_step l.b.bits l.m (above_at l.b.bits l.m l.a.descriptor.0) l.a.descriptor.0) l.top
    (from (page_words l.b.bits - l.i-iterator.at) l.i-iterator.at)))
