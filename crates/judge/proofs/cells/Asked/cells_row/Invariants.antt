-- `judge::cells::Asked::cells_row` meets its contract. Assumes nothing.
use Prim.Native.Nat.{◌+◌, ◌-◌}
use mathlib.Core.Path.{◌≡◌}
use mathlib.Core.Bool.{true}
use lib.ListN.{get_or}
use Rattle.walk.specs.Finite.{from}
use Rattle.memory.specs.Geometry.{page_words, address}
use Rattle.tally.specs.Run.{run, asking}
use Rattle.tally.specs.Rows.{Passed, cell_words}
use Rattle.tally.proofs.Laws.Sweeps.{rise_in}
use Rattle.judge.proofs.cells.Asked.cells_row.Given as goal

abbrev pub invariant-loop-j : goal.invariant-loop-j
invariant-loop-j l =
    (run (asking (λ k. cell_words l.self.b.bits l.self.m.now l.self.descriptor.0 (address l.self.b.bits (l.v.0 + k)) (get_or l.pt k 0) (get_or l.s1 k 0) (get_or l.s2 k 0))) true (from (page_words l.self.b.bits) 0)
    ≡ run (asking (λ k. cell_words l.self.b.bits l.self.m.now l.self.descriptor.0 (address l.self.b.bits (l.v.0 + k)) (get_or l.pt k 0) (get_or l.s1 k 0) (get_or l.s2 k 0))) true (from (page_words l.self.b.bits - l.j) l.j))
    × Passed l.self.b.bits l.self.m.now l.self.descriptor.0 l.to
    × (run (rise_in l.pt l.s2) l.before (from (page_words l.self.b.bits) 0) ≡ run (rise_in l.pt l.s2) l.top (from (page_words l.self.b.bits - l.j) l.j))

abbrev pub decreases-loop-j : goal.decreases-loop-j
decreases-loop-j l = page_words l.self.b.bits - l.j
