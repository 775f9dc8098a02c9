-- `judge::cycle::judge_children` and `judge::cycle::judge_partition` meet their contracts. Assumes nothing.
use mathlib.Core.Bool.{not}
use Prim.Native.Nat.{◌+◌, ℕ}
use mathlib.Core.Path.{ap, ◌∙◌, refl, sym}
use borrow.Author.Tests.{not-true, not-false}
use Rattle.walk.specs.Marks.{passed, failed}
use Rattle.tally.specs.Bits.{marks_in}
use Rattle.judge.proofs.Laws.Tree.{alone-no, cells-no, cells-yes, no-child}
use mathlib.Core.Option.{some}
use native.Mathlib.Nat.{pos_of_ne-zero}
use native.Mathlib.Omega.{arith}
use lib.ListN.{get_or}
use Rattle.walk.specs.Walk.{child-none, child-next}
use Rattle.memory.specs.Geometry.{page_words, page_of}
use Rattle.memory.specs.Words.{page}
use Rattle.memory.specs.Partition.{mapping, lent}
use Rattle.memory.specs.Counts.{children}
use Rattle.soundness.specs.Test.{own}
use Rattle.judging.specs.Quick.{partition_test}
use Rattle.tally.specs.Rows.{child_words}
use Rattle.tally.proofs.Laws.Search.{next_low, next-high, next_here}
use Rattle.tally.proofs.Laws.Rows.{rows-first, rows_next, rows_end}
use Rattle.tally.proofs.Laws.Used.{begun, given, ended}
use Rattle.tally.proofs.Laws.Sweeps.{child_step, children-run, children-row}
use Rattle.tally.proofs.Laws.Walks.{rows-stop, picked_first, picked_next, picked_fails, picked_end, picked_is, child-short, child-rest}
use Rattle.walk.specs.Walk as W
use Rattle.judge.proofs.cycle.+judge_children_judge_partition.Goals as goal

pub judge_partition-returns-in_default : goal.judge_partition-returns-in_default
judge_partition-returns-in_default t c = let s = c.args in alone-no s.b.bits s.m.now _ _ s.d.0 c.in_default.ensures.0

pub judge_partition-returns-then-not-cells_test : goal.judge_partition-returns-then-not-cells_test
judge_partition-returns-then-not-cells_test t c =
    let s = c.args in
    cells-no s.b.bits s.m.now _ _ s.d.0 c.in-Some.ensures.1.0 c.cells_test.ensures (ap not c.if-not-cells_test.true)

pub judge_partition-returns-then-t-eq0 : goal.judge_partition-returns-then-t-eq0
judge_partition-returns-then-t-eq0 t c =
    let s = c.args in
    let seen = marks_in c.judge_alone.new.seen in
    let alone = c.in-Some.ensures in
    cells-yes s.b.bits s.m.now _ _ s.d.0 alone.1.0 c.cells_test.ensures (ap not c.if-not-cells_test.false) seen alone.0
    ∙ no-child s.b.bits s.m.now _ seen s.d.0 alone.1.1 c.if-t-eq0.true

pub judge_partition-returns : goal.judge_partition-returns
judge_partition-returns t c =
    let s = c.args in
    let alone = c.in-Some.ensures in
    cells-yes s.b.bits s.m.now _ _ s.d.0 alone.1.0 c.cells_test.ensures (ap not c.if-not-cells_test.false) (marks_in c.judge_alone.new.seen) alone.0
    ∙ c.judge_children.ensures

pub judge_children-loop-i-init : goal.judge_children-loop-i-init
judge_children-loop-i-init t c =
    let s = c.args in
    let d = s.d.0 in
    let step = W.child (children s.b.bits s.m.now) (own s.b.bits s.m.now) (partition_test s.b.bits s.m.now) s.left in
    let first = begun c.into_iter-i-iterator.ensures.into_iter_gives c.used_places-i-items.ensures in
    let e = c.words_of-dir.ensures ∙ ap (page s.b.bits s.m.now) c.directory.ensures in (
      refl,
      first.0,
      rows-first s.b.bits s.m.now (child_step s.b.bits s.m.now d step) d c.words_of-dir.result.now e (some (marks_in s.seen.now))
          (children-run s.b.bits s.m.now d step (marks_in s.seen.now)) first.1,
    )

pub judge_children-bounds-dir-i : goal.judge_children-bounds-dir-i
judge_children-bounds-dir-i t c = (given c.loop-i.i-iterator c.loop-i.invariant.1 c.in-Some.ensures.steps.1).1

pub judge_children-loop-j-init : goal.judge_children-loop-j-init
judge_children-loop-j-init t c =
    let words_of = c.words_of-dir in
    let p = c.loop-i in
    let i = c.in-Some.i in
    let step = given p.i-iterator p.invariant.1 c.in-Some.ensures.steps.1 in
    let table_of = c.table_of-pt in
    let s = c.args in
    let pt = table_of.result.now in
    let s1 = c.table_of-s1.result.now in
    let n = c.min-n.result in (
      refl,
      next-high (λ k. child_words (get_or pt k 0) (get_or s1 k 0)) n 0 (omega arith) c.next_child-j.ensures,
      next_here (λ k. child_words (get_or pt k 0) (get_or s1 k 0)) n 0 (omega arith) c.next_child-j.ensures,
      picked_first (λ k. child_words (get_or pt k 0) (get_or s1 k 0))
          (λ t k. W.child (children s.b.bits s.m.now) (own s.b.bits s.m.now) (partition_test s.b.bits s.m.now) s.left t (page_of s.b.bits (get_or pt k 0)))
          (page_words s.b.bits) n (child-short s.b.bits s.m.now s1 (get_or words_of.result.now i 0) table_of.ensures c.min-n.ensures)
          (child-rest pt s1 c.min-n.ensures) (some (marks_in p.seen)) c.next_child-j.ensures,
    )

pub judge_children-returns-then-left-eq0 : goal.judge_children-returns-then-left-eq0
judge_children-returns-then-left-eq0 t c =
    let directory = c.directory in
    let words_of = c.words_of-dir in
    let shadow1 = c.shadow1 in
    let words-of2 = c.words_of-sh1 in
    let p = c.loop-i in
    let i = c.in-Some.i in
    let step = given p.i-iterator p.invariant.1 c.in-Some.ensures.steps.1 in
    let table_of = c.table_of-pt in
    let read = c.read in
    let table-of2 = c.table_of-s1 in
    let least = c.min-n in
    let q = c.loop-j in
    let s = c.args in
    let pt = table_of.result.now in
    let s1 = table-of2.result.now in
    let n = least.result in
    let e = words_of.ensures ∙ ap (page s.b.bits s.m.now) directory.ensures in
    let e1 = words-of2.ensures ∙ ap (page s.b.bits s.m.now) shadow1.ensures in
    rows-stop s.b.bits s.m.now (λ v. child_words (mapping s.b.bits s.m.now s.d.0 v) (lent s.b.bits s.m.now s.d.0 v))
    (λ t v. (W.child (children s.b.bits s.m.now) (own s.b.bits s.m.now) (partition_test s.b.bits s.m.now) s.left) t (page_of s.b.bits (mapping s.b.bits s.m.now s.d.0 v)))
    s.d.0 words_of.result.now e i (some (marks_in p.seen)) step.1
    (children-row s.b.bits s.m.now s.d.0 i e step.1 step.2 table_of.ensures e1 read.ensures table-of2.ensures
    (W.child (children s.b.bits s.m.now) (own s.b.bits s.m.now) (partition_test s.b.bits s.m.now) s.left) (some (marks_in p.seen)) ∙ q.invariant.3
    ∙ picked_fails (λ k. child_words (get_or pt k 0) (get_or s1 k 0))
    (λ t k. W.child (children s.b.bits s.m.now) (own s.b.bits s.m.now) (partition_test s.b.bits s.m.now) s.left t (page_of s.b.bits (get_or pt k 0)))
    (page_words s.b.bits) n (child-short s.b.bits s.m.now s1 (get_or words_of.result.now i 0) table_of.ensures least.ensures)
    (child-rest pt s1 least.ensures) (some (marks_in q.seen)) c.loop-j-test.true
    (picked_is (λ k. child_words (get_or pt k 0) (get_or s1 k 0))
    (λ t k. W.child (children s.b.bits s.m.now) (own s.b.bits s.m.now) (partition_test s.b.bits s.m.now) s.left t (page_of s.b.bits (get_or pt k 0)))
    (marks_in q.seen) q.j (q.invariant.2 c.loop-j-test.true) ∙ child-none _ _ _ _ _ _ c.if-left-eq0.true))
    (rw step.0 p.invariant.2)

pub judge_children-page_of-requires : goal.judge_children-page_of-requires
judge_children-page_of-requires t c = c.requires

pub judge_children-judge_partition-requires : goal.judge_children-judge_partition-requires
judge_children-judge_partition-requires t c =
    (omega (arith, c.if-left-eq0.false), c.requires)

pub judge_children-returns-then-not-judge_partition : goal.judge_children-returns-then-not-judge_partition
judge_children-returns-then-not-judge_partition t c =
    let directory = c.directory in
    let words_of = c.words_of-dir in
    let shadow1 = c.shadow1 in
    let words-of2 = c.words_of-sh1 in
    let p = c.loop-i in
    let i = c.in-Some.i in
    let step = given p.i-iterator p.invariant.1 c.in-Some.ensures.steps.1 in
    let table_of = c.table_of-pt in
    let read = c.read in
    let table-of2 = c.table_of-s1 in
    let least = c.min-n in
    let q = c.loop-j in
    let loop2-test = c.loop-j-test in
    let first = c.if-left-eq0 in
    let judge-partition = c.judge_partition in
    let s = c.args in
    let pt = table_of.result.now in
    let s1 = table-of2.result.now in
    let n = least.result in
    let e = words_of.ensures ∙ ap (page s.b.bits s.m.now) directory.ensures in
    let e1 = words-of2.ensures ∙ ap (page s.b.bits s.m.now) shadow1.ensures in
    rows-stop s.b.bits s.m.now (λ v. child_words (mapping s.b.bits s.m.now s.d.0 v) (lent s.b.bits s.m.now s.d.0 v))
    (λ t v. (W.child (children s.b.bits s.m.now) (own s.b.bits s.m.now) (partition_test s.b.bits s.m.now) s.left) t (page_of s.b.bits (mapping s.b.bits s.m.now s.d.0 v)))
    s.d.0 words_of.result.now e i (some (marks_in p.seen)) step.1
    (children-row s.b.bits s.m.now s.d.0 i e step.1 step.2 table_of.ensures e1 read.ensures table-of2.ensures
    (W.child (children s.b.bits s.m.now) (own s.b.bits s.m.now) (partition_test s.b.bits s.m.now) s.left) (some (marks_in p.seen)) ∙ q.invariant.3
    ∙ picked_fails (λ k. child_words (get_or pt k 0) (get_or s1 k 0))
    (λ t k. W.child (children s.b.bits s.m.now) (own s.b.bits s.m.now) (partition_test s.b.bits s.m.now) s.left t (page_of s.b.bits (get_or pt k 0)))
    (page_words s.b.bits) n (child-short s.b.bits s.m.now s1 (get_or words_of.result.now i 0) table_of.ensures least.ensures)
    (child-rest pt s1 least.ensures) (some (marks_in q.seen)) loop2-test.true
    (picked_is (λ k. child_words (get_or pt k 0) (get_or s1 k 0))
    (λ t k. W.child (children s.b.bits s.m.now) (own s.b.bits s.m.now) (partition_test s.b.bits s.m.now) s.left t (page_of s.b.bits (get_or pt k 0)))
    (marks_in q.seen) q.j (q.invariant.2 loop2-test.true)
    ∙ ap (λ (x : ℕ). (W.child (children s.b.bits s.m.now) (own s.b.bits s.m.now) (partition_test s.b.bits s.m.now) s.left) (marks_in q.seen) x)
    (sym c.page_of.ensures) ∙ child-next _ _ _ _ _ _ (pos_of_ne-zero first.false)
    ∙ failed _ judge-partition.result (marks_in judge-partition.new.seen) judge-partition.ensures (not-true _ (ap not c.if-not-judge_partition.true))))
    (rw step.0 p.invariant.2)

pub judge_children-loop-j-smaller : goal.judge_children-loop-j-smaller
judge_children-loop-j-smaller t c =
    let table_of = c.table_of-pt in
    let table-of2 = c.table_of-s1 in
    let least = c.min-n in
    let q = c.loop-j in
    let loop2-test = c.loop-j-test in
    let s = c.args in
    let pt = table_of.result.now in
    let s1 = table-of2.result.now in
    let n = least.result in
    omega (arith, loop2-test.true, next_low (λ k. child_words (get_or pt k 0) (get_or s1 k 0)) n (q.j + 1) c.next_child-j-in-loop-j.ensures)

pub judge_children-loop-j-preserved : goal.judge_children-loop-j-preserved
judge_children-loop-j-preserved t c =
    let words_of = c.words_of-dir in
    let p = c.loop-i in
    let i = c.in-Some.i in
    let step = given p.i-iterator p.invariant.1 c.in-Some.ensures.steps.1 in
    let table_of = c.table_of-pt in
    let table-of2 = c.table_of-s1 in
    let least = c.min-n in
    let q = c.loop-j in
    let loop2-test = c.loop-j-test in
    let first = c.if-left-eq0 in
    let page-of = c.page_of in
    let judge-partition = c.judge_partition in
    let s = c.args in
    let pt = table_of.result.now in
    let s1 = table-of2.result.now in
    let n = least.result in (
      judge-partition.auto.seen ∙ q.invariant.0,
      next-high (λ k. child_words (get_or pt k 0) (get_or s1 k 0)) n (q.j + 1) (omega (arith, loop2-test.true)) c.next_child-j-in-loop-j.ensures,
      next_here (λ k. child_words (get_or pt k 0) (get_or s1 k 0)) n (q.j + 1) (omega (arith, loop2-test.true)) c.next_child-j-in-loop-j.ensures,
      q.invariant.3 ∙ picked_next (λ k. child_words (get_or pt k 0) (get_or s1 k 0))
          (λ t k. W.child (children s.b.bits s.m.now) (own s.b.bits s.m.now) (partition_test s.b.bits s.m.now) s.left t (page_of s.b.bits (get_or pt k 0)))
          (page_words s.b.bits) n (child-short s.b.bits s.m.now s1 (get_or words_of.result.now i 0) table_of.ensures least.ensures)
          (child-rest pt s1 least.ensures) (some (marks_in q.seen)) (some (marks_in judge-partition.new.seen)) loop2-test.true
          (sym (picked_is (λ k. child_words (get_or pt k 0) (get_or s1 k 0))
          (λ t k. W.child (children s.b.bits s.m.now) (own s.b.bits s.m.now) (partition_test s.b.bits s.m.now) s.left t
          (page_of s.b.bits (get_or pt k 0))) (marks_in q.seen) q.j (q.invariant.2 loop2-test.true)
          ∙ ap (λ (x : ℕ). (W.child (children s.b.bits s.m.now) (own s.b.bits s.m.now) (partition_test s.b.bits s.m.now) s.left)
          (marks_in q.seen) x) (sym page-of.ensures) ∙ child-next _ _ _ _ _ _ (pos_of_ne-zero first.false)
          ∙ passed _ judge-partition.result _ judge-partition.ensures (not-false _ (ap not c.if-not-judge_partition.false))))
          c.next_child-j-in-loop-j.ensures,
    )

pub judge_children-loop-i-preserved : goal.judge_children-loop-i-preserved
judge_children-loop-i-preserved t c =
    let s = c.args in
    let d = s.d.0 in
    let p = c.loop-i in
    let i = c.in-Some.i in
    let step = given p.i-iterator p.invariant.1 c.in-Some.ensures.steps.1 in
    let q = c.loop-j in
    let pt = c.table_of-pt.result.now in
    let s1 = c.table_of-s1.result.now in
    let n = c.min-n in
    let child = W.child (children s.b.bits s.m.now) (own s.b.bits s.m.now) (partition_test s.b.bits s.m.now) s.left in
    let dir = c.words_of-dir.result.now in
    let e = c.words_of-dir.ensures ∙ ap (page s.b.bits s.m.now) c.directory.ensures in
    let e1 = c.words_of-sh1.ensures ∙ ap (page s.b.bits s.m.now) c.shadow1.ensures in (
      q.invariant.0 ∙ p.invariant.0,
      c.in-Some.ensures.steps.0 ∙ p.invariant.1,
      rows_next s.b.bits s.m.now (child_step s.b.bits s.m.now d child) d dir e (some (marks_in p.seen)) (some (marks_in q.seen)) step.1
          (sym (children-row s.b.bits s.m.now d i e step.1 step.2 c.table_of-pt.ensures e1 c.read.ensures c.table_of-s1.ensures child
          (some (marks_in p.seen)) ∙ q.invariant.3 ∙ picked_end (λ k. child_words (get_or pt k 0) (get_or s1 k 0))
          (λ t k. child t (page_of s.b.bits (get_or pt k 0))) (page_words s.b.bits) n.result
          (child-short s.b.bits s.m.now s1 (get_or dir i 0) c.table_of-pt.ensures n.ensures)
          (child-rest pt s1 n.ensures) (some (marks_in q.seen)) c.loop-j-test.false))
          step.3 (rw step.0 p.invariant.2),
    )

pub judge_children-returns : goal.judge_children-returns
judge_children-returns t c =
    let directory = c.directory in
    let words_of = c.words_of-dir in
    let s = c.args in
    let e = words_of.ensures ∙ ap (page s.b.bits s.m.now) directory.ensures in
    rows_end s.b.bits s.m.now
    (child_step s.b.bits s.m.now s.d.0 (W.child (children s.b.bits s.m.now) (own s.b.bits s.m.now) (partition_test s.b.bits s.m.now) s.left)) s.d.0
    words_of.result.now e (some (marks_in c.loop-i.seen)) (ended c.loop-i.i-iterator c.loop-i.invariant.1 c.in-None.ensures.steps.1) c.loop-i.invariant.2
