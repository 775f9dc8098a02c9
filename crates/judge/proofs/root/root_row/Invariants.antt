-- `judge::root::root_row` meets its contract. Assumes nothing.
use Prim.Native.Nat.{◌-◌, ◌≤◌}
use mathlib.Core.Path.{◌≡◌}
use mathlib.Core.Bool.{true}
use Rattle.walk.specs.Finite.{from}
use Rattle.memory.specs.Geometry.{page_words}
use Rattle.tally.specs.Run.{run, asking}
use Rattle.tally.proofs.Laws.Run.{Counted}
use Rattle.judge.proofs.Laws.Flat.{asked_at}
use Rattle.judge.proofs.root.root_row.Given as goal

abbrev pub invariant-loop-i : goal.invariant-loop-i
invariant-loop-i l = (l.i ≤ l.e) × Counted (run (asking (asked_at l.b.bits l.t l.flat l.v.0 l.pt l.s2)) true (from (page_words l.b.bits) 0))
    (asked_at l.b.bits l.t l.flat l.v.0 l.pt l.s2) (page_words l.b.bits) l.i l.k

abbrev pub invariant-loop-j : goal.invariant-loop-j
invariant-loop-j l = (l.j ≤ page_words l.b.bits) × (run (asking (asked_at l.b.bits l.t l.flat l.v.0 l.pt l.s2)) true (from (page_words l.b.bits) 0)
    ≡ run (asking (asked_at l.b.bits l.t l.flat l.v.0 l.pt l.s2)) true (from (page_words l.b.bits - l.j) l.j))
