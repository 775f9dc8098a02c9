-- `tally::tally::tally` meets its contract. Assumes nothing.
use Prim.Native.Nat.{ℕ, ◌+◌, ◌≤◌}
use mathlib.Core.List.{List}
use mathlib.Core.Option.{some}
use mathlib.Core.Path.{refl, sym, ap, ◌∙◌, subst}
use native.Mathlib.Omega.{arith}
use lib.ListN.{length, get_or}
use Rattle.walk.specs.Marks.{mark}
use Rattle.memory.specs.Geometry.{page_words, page_of}
use Rattle.memory.specs.Words.{page}
use Rattle.memory.specs.Partition.{mapping, in_hand}
use Rattle.memory.proofs.Widths.{words-most}
use Rattle.tally.specs.Bits.{marks_in}
use Rattle.tally.specs.Run.{adding}
use Rattle.tally.proofs.Laws.Rows.{rows-first, rows_next, rows_end, table-short, dir_short}
use Rattle.tally.proofs.Laws.Sweeps.{mapped_at, shut_at, due_at, hand_at, mapped_run, shut_run, due_run, hands-run, mapped-row, shut_row, due-row, hands-row}
use Rattle.tally.proofs.Laws.Used.{begun, given, ended, next_low}
use Rattle.tally.proofs.Laws.Walks.{rows-stop}
use Rattle.tally.proofs.tally.tally.Goals as goal

pub loop-i-init : goal.loop-i-init
loop-i-init c =
    let s = c.args in
    let dir = c.words_of-dir.result.now in
    let d = s.d.0 in
    let first = begun c.into_iter-i-iterator.ensures.into_iter_gives c.used_places-i-items.ensures in
    let e = c.words_of-dir.ensures ∙ ap (page s.b.bits s.m.now) c.directory.ensures in (
      first.0,
      omega arith,
      omega arith,
      omega arith,
      rows-first s.b.bits s.m.now (adding (mapped_at s.b.bits s.m.now d)) d dir e 0 (mapped_run s.b.bits s.m.now d) first.1,
      rows-first s.b.bits s.m.now (adding (shut_at s.b.bits s.m.now d)) d dir e 0 (shut_run s.b.bits s.m.now d) first.1,
      rows-first s.b.bits s.m.now (adding (due_at s.b.bits s.m.now d)) d dir e 0 (due_run s.b.bits s.m.now d) first.1,
      rows-first s.b.bits s.m.now (hand_at s.b.bits s.m.now d) d dir e (some (marks_in s.seen.now)) (hands-run s.b.bits s.m.now d (marks_in s.seen.now)) first.1,
      refl,
    )

pub bounds-dir-i : goal.bounds-dir-i
bounds-dir-i c = (given c.loop-i.i-iterator c.loop-i.invariant.0 c.in-Some.ensures.steps.1).1

pub tally_row-requires : goal.tally_row-requires
tally_row-requires c =
    let s = c.args in record {
      short = subst (λ (t : List ℕ). length t ≤ page_words s.b.bits) (sym c.table_of-pt.ensures)
          (table-short s.b.bits s.m.now (get_or c.words_of-dir.result.now c.in-Some.i 0));
    }

pub returns-in_err-t : goal.returns-in_err-t
returns-in_err-t c =
    let s = c.args in
    let dir = c.words_of-dir.result.now in
    let p = c.loop-i in
    let step = given p.i-iterator p.invariant.0 c.in-Some.ensures.steps.1 in
    let e = c.words_of-dir.ensures ∙ ap (page s.b.bits s.m.now) c.directory.ensures in
    let e1 = c.words_of-sh1.ensures ∙ ap (page s.b.bits s.m.now) c.shadow1.ensures in
    rw c.from_residual.ensures (
      rows-stop s.b.bits s.m.now (in_hand s.b.bits s.m.now s.d.0) (λ t v. mark t (page_of s.b.bits (mapping s.b.bits s.m.now s.d.0 v))) s.d.0
          dir e c.in-Some.i (some (marks_in p.seen)) step.1
          (hands-row s.b.bits s.m.now s.d.0 c.in-Some.i e step.1 step.2 c.table_of-pt.ensures e1 c.read.ensures c.table_of-s1.ensures
          (some (marks_in p.seen)) ∙ c.in_err-t.ensures.0)
          (rw step.0 p.invariant.7),
      tt,
    )

pub overflow_add-mapped : goal.overflow_add-mapped
overflow_add-mapped c =
    let s = c.args in
    let p = c.loop-i in
    let step = given p.i-iterator p.invariant.0 c.in-Some.ensures.steps.1 in
    omega (arith, c.in_ok-t.ensures.1.3, p.invariant.1, step.0, step.1, dir_short s.b.bits s.m.now _ c.words_of-dir.ensures, words-most s.b.bits s.b.known.1)

pub overflow_add-shut : goal.overflow_add-shut
overflow_add-shut c =
    let s = c.args in
    let p = c.loop-i in
    let step = given p.i-iterator p.invariant.0 c.in-Some.ensures.steps.1 in
    omega (arith, c.in_ok-t.ensures.1.4, p.invariant.2, step.0, step.1, dir_short s.b.bits s.m.now _ c.words_of-dir.ensures, words-most s.b.bits s.b.known.1)

pub overflow_add-due : goal.overflow_add-due
overflow_add-due c =
    let s = c.args in
    let p = c.loop-i in
    let step = given p.i-iterator p.invariant.0 c.in-Some.ensures.steps.1 in
    omega (arith, c.in_ok-t.ensures.1.5, p.invariant.3, step.0, step.1, dir_short s.b.bits s.m.now _ c.words_of-dir.ensures, words-most s.b.bits s.b.known.1)

pub loop-i-preserved : goal.loop-i-preserved
loop-i-preserved c =
    let s = c.args in
    let d = s.d.0 in
    let dir = c.words_of-dir.result.now in
    let p = c.loop-i in
    let i = c.in-Some.i in
    let step = given p.i-iterator p.invariant.0 c.in-Some.ensures.steps.1 in
    let low = next_low dir i step.3 in
    let t = c.in_ok-t in
    let told = t.ensures.1 in
    let e = c.words_of-dir.ensures ∙ ap (page s.b.bits s.m.now) c.directory.ensures in
    let e1 = c.words_of-sh1.ensures ∙ ap (page s.b.bits s.m.now) c.shadow1.ensures in (
      c.in-Some.ensures.steps.0 ∙ p.invariant.0,
      omega (arith, low, step.0, told.3, p.invariant.1),
      omega (arith, low, step.0, told.4, p.invariant.2),
      omega (arith, low, step.0, told.5, p.invariant.3),
      rows_next s.b.bits s.m.now (adding (mapped_at s.b.bits s.m.now d)) d dir e p.mapped (p.mapped + t.t.mapped) step.1
          (mapped-row s.b.bits s.m.now d i e step.1 step.2 c.table_of-pt.ensures p.mapped told.0) step.3 (rw step.0 p.invariant.4),
      rows_next s.b.bits s.m.now (adding (shut_at s.b.bits s.m.now d)) d dir e p.shut (p.shut + t.t.shut) step.1
          (shut_row s.b.bits s.m.now d i e step.1 step.2 c.table_of-pt.ensures e1 c.read.ensures c.table_of-s1.ensures p.shut told.1) step.3
          (rw step.0 p.invariant.5),
      rows_next s.b.bits s.m.now (adding (due_at s.b.bits s.m.now d)) d dir e p.due (p.due + t.t.due) step.1
          (due-row s.b.bits s.m.now d i e step.1 step.2 c.table_of-pt.ensures e1 c.read.ensures c.table_of-s1.ensures p.due told.2) step.3
          (rw step.0 p.invariant.6),
      rows_next s.b.bits s.m.now (hand_at s.b.bits s.m.now d) d dir e (some (marks_in p.seen)) (some (marks_in c.tally_row.new.seen)) step.1
          (sym (hands-row s.b.bits s.m.now d i e step.1 step.2 c.table_of-pt.ensures e1 c.read.ensures c.table_of-s1.ensures (some (marks_in p.seen))
          ∙ t.ensures.0)) step.3 (rw step.0 p.invariant.7),
      c.tally_row.auto.seen ∙ p.invariant.8,
    )

pub returns : goal.returns
returns c =
    let s = c.args in
    let d = s.d.0 in
    let dir = c.words_of-dir.result.now in
    let p = c.loop-i in
    let e = c.words_of-dir.ensures ∙ ap (page s.b.bits s.m.now) c.directory.ensures in
    let end = ended p.i-iterator p.invariant.0 c.in-None.ensures.steps.1 in (
      rows_end s.b.bits s.m.now (hand_at s.b.bits s.m.now d) d dir e (some (marks_in p.seen)) end p.invariant.7,
      (
        sym (rows_end s.b.bits s.m.now (adding (mapped_at s.b.bits s.m.now d)) d dir e p.mapped end p.invariant.4),
        sym (rows_end s.b.bits s.m.now (adding (shut_at s.b.bits s.m.now d)) d dir e p.shut end p.invariant.5),
        sym (rows_end s.b.bits s.m.now (adding (due_at s.b.bits s.m.now d)) d dir e p.due end p.invariant.6),
      ),
    )
