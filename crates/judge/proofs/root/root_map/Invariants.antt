-- `judge::root::root_map` meets its contract. Assumes nothing.
use Prim.Native.Nat.{◌-◌}
use mathlib.Core.Path.{◌≡◌}
use mathlib.Core.Bool.{true}
use Rattle.walk.specs.Finite.{from, all}
use Rattle.memory.specs.Geometry.{page_words}
use Rattle.memory.specs.Counts.{tabled}
use Rattle.soundness.specs.Test.{root_map_test}
use Rattle.tally.specs.Run.{run, asking}
use Rattle.tally.proofs.Laws.Rows.{row_step}
use Rattle.judge.proofs.root.root_map.Given as goal

abbrev pub invariant-loop-i : goal.invariant-loop-i
invariant-loop-i l =
    (l.i-iterator.words.now ≡ l.dir)
    × (all (root_map_test l.b.bits l.m) (tabled l.b.bits l.m 1)
    ≡ run (row_step l.b.bits l.m (asking (root_map_test l.b.bits l.m)) 1) true (from (page_words l.b.bits - l.i-iterator.at) l.i-iterator.at))
