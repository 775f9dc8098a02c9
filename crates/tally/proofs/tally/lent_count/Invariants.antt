-- `tally::tally::lent_count` meets its contract. Assumes nothing.
use Prim.Native.Nat.{◌-◌, ◌*◌, ◌≤◌}
use mathlib.Core.Path.{◌≡◌}
use Rattle.walk.specs.Finite.{from}
use Rattle.memory.specs.Geometry.{page_words}
use Rattle.memory.specs.Words.{page}
use Rattle.memory.specs.Partition.{directory}
use Rattle.judging.specs.Quick.{lent_count}
use Rattle.tally.specs.Run.{run, adding}
use Rattle.tally.proofs.Laws.Rows.{row_step}
use Rattle.tally.proofs.Laws.Sweeps.{lent_at}
use Rattle.tally.proofs.tally.lent_count.Given as goal

abbrev pub invariant-loop-i : goal.invariant-loop-i
invariant-loop-i l =
    (l.i-iterator.words.now ≡ page l.b.bits l.m (directory l.b.bits l.m l.fn.d.0)) × (l.k ≤ 1024 * l.i-iterator.at)
    × (lent_count l.b.bits l.m l.fn.d.0 l.v
    ≡ run (row_step l.b.bits l.m (adding (lent_at l.b.bits l.m l.fn.d.0 l.v)) l.fn.d.0) l.k
    (from (page_words l.b.bits - l.i-iterator.at) l.i-iterator.at))
