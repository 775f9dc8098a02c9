-- The depth that is left falls: a partition of that depth comes before its children.
use Prim.Native.Nat.{◌+◌, ◌-◌, ◌≤◌, ◌<◌}
use mathlib.Core.Path.{◌≡◌}
use mathlib.Core.Bool.{true}
use mathlib.Core.Option.{some}
use lib.ListN.{length, get_or}
use Rattle.walk.specs.Finite.{from}
use Rattle.walk.specs.Marks.{each}
use Rattle.memory.specs.Geometry.{page_words, page_of}
use Rattle.memory.specs.Counts.{children}
use Rattle.soundness.specs.Test.{own}
use Rattle.judging.specs.Quick.{partition_test}
use Rattle.tally.specs.Run.{run, marking}
use Rattle.tally.specs.Rows.{child_words}
use Rattle.tally.specs.Bits.{marks_in}
use Rattle.tally.proofs.Laws.Rows.{row_step}
use Rattle.tally.proofs.Laws.Sweeps.{child_step}
use Rattle.walk.specs.Walk as W
use Rattle.judge.proofs.cycle.+judge_children_judge_partition.Given as goal

abbrev pub decreases-judge_children : goal.decreases-judge_children
decreases-judge_children l = l.left + l.left

abbrev pub decreases-judge_partition : goal.decreases-judge_partition
decreases-judge_partition l = l.left + l.left + 1

abbrev pub invariant-judge_children-loop-j : goal.invariant-judge_children-loop-j
invariant-judge_children-loop-j l =
    (length l.seen ≡ length l.initial.seen) × (l.j ≤ l.n) × (l.j < l.n → child_words (get_or l.pt l.j 0) (get_or l.s1 l.j 0) ≡ true)
    × (run (marking (λ k. child_words (get_or l.pt k 0) (get_or l.s1 k 0))
    (λ t k. W.child (children l.b.bits l.m) (own l.b.bits l.m) (partition_test l.b.bits l.m) l.left t (page_of l.b.bits (get_or l.pt k 0)))) (some (marks_in l.initial.seen)) (from (page_words l.b.bits) 0)
    ≡ run (marking (λ k. child_words (get_or l.pt k 0) (get_or l.s1 k 0))
    (λ t k. W.child (children l.b.bits l.m) (own l.b.bits l.m) (partition_test l.b.bits l.m) l.left t (page_of l.b.bits (get_or l.pt k 0)))) (some (marks_in l.seen)) (from (page_words l.b.bits - l.j) l.j))

abbrev pub decreases-judge_children-loop-j : goal.decreases-judge_children-loop-j
decreases-judge_children-loop-j l = l.n - l.j

abbrev pub invariant-judge_children-loop-i : goal.invariant-judge_children-loop-i
invariant-judge_children-loop-i l =
    (length l.seen ≡ length l.initial.seen) × (l.i-iterator.words.now ≡ l.dir)
    × (each (W.child (children l.b.bits l.m) (own l.b.bits l.m) (partition_test l.b.bits l.m) l.left) (marks_in l.initial.seen) (children l.b.bits l.m l.fn.d.0)
    ≡ run (row_step l.b.bits l.m (child_step l.b.bits l.m l.fn.d.0
    (W.child (children l.b.bits l.m) (own l.b.bits l.m) (partition_test l.b.bits l.m) l.left)) l.fn.d.0) (some (marks_in l.seen))
    (from (page_words l.b.bits - l.i-iterator.at) l.i-iterator.at))
