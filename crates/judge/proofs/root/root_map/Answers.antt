-- `judge::root::root_map` meets its contract. Assumes nothing.
use mathlib.Core.Bool.{not}
use Prim.Native.Nat.{ℕ, ◌*◌}
use mathlib.Core.Path.{◌≡◌, sym, ap, ◌∙◌}
use native.Mathlib.Omega.{arith}
use mathlib.Core.Bool.{true}
use lib.ListN.{get_or}
use Rattle.memory.specs.Geometry.{page_words}
use Rattle.memory.specs.Words.{page}
use Rattle.memory.proofs.Widths.{words-most}
use Rattle.soundness.specs.Test.{root_map_test}
use Rattle.tally.specs.Run.{asking}
use Rattle.judge.proofs.Laws.Numbers.{most-pages, row_in}
use Rattle.tally.proofs.Laws.Used.{begun, given, ended}
use Rattle.tally.proofs.Laws.Rows.{rows-first, rows_end, asks_next, asks_stop, dir_short, part-short}
use Rattle.tally.proofs.Laws.Sweeps.{root-run, root-row}
use Rattle.judge.proofs.root.root_map.Goals as goal

pub loop-i-init : goal.loop-i-init
loop-i-init c =
    let s = c.args in
    let first = begun c.into_iter-i-iterator.ensures.into_iter_gives c.used_places-i-items.ensures in (
      first.0,
      rows-first s.b.bits s.m.now (asking (root_map_test s.b.bits s.m.now)) 1 c.words_of-dir.result.now
          (c.words_of-dir.ensures ∙ ap (page s.b.bits s.m.now) c.directory.ensures) true (root-run s.b.bits s.m.now 1) first.1,
    )

pub bounds-dir-i : goal.bounds-dir-i
bounds-dir-i c = (given c.loop-i.i-iterator c.loop-i.invariant.0 c.in-Some.ensures.steps.1).1

pub overflow_cast-i : goal.overflow_cast-i
overflow_cast-i c =
    let s = c.args in
    let p = c.loop-i in
    let step = given p.i-iterator p.invariant.0 c.in-Some.ensures.steps.1 in
    omega (arith, step.1, dir_short s.b.bits s.m.now _ c.words_of-dir.ensures, words-most s.b.bits s.b.known.1)

pub overflow_mul-i : goal.overflow_mul-i
overflow_mul-i c =
    let s = c.args in
    let p = c.loop-i in
    let i = c.in-Some.i in
    let step = given p.i-iterator p.invariant.0 c.in-Some.ensures.steps.1 in
    let e : i * c.page_words.result ≡ i * page_words s.b.bits = rw c.page_words.ensures.0 in
    omega (arith, e, row_in s.b.bits i (omega (arith, step.1, dir_short s.b.bits s.m.now _ c.words_of-dir.ensures)), most-pages s.b.bits s.b.known.1)

pub root_row-requires : goal.root_row-requires
root_row-requires c =
    let s = c.args in
    let p = c.loop-i in
    let i = c.in-Some.i in
    let step = given p.i-iterator p.invariant.0 c.in-Some.ensures.steps.1 in
    let e : i * c.page_words.result ≡ i * page_words s.b.bits = rw c.page_words.ensures.0 in record {
      row = omega (arith, e, row_in s.b.bits i (omega (arith, step.1, dir_short s.b.bits s.m.now _ c.words_of-dir.ensures)));
      page = omega (arith, c.threes_for-t.ensures.1, most-pages s.b.bits s.b.known.1);
      short = part-short s.b.bits s.m.now (get_or c.words_of-dir.result.now i 0) c.table_of-pt.ensures;
    }

pub returns-then-not-root_row : goal.returns-then-not-root_row
returns-then-not-root_row c =
    let pages = c.pages-n in
    let threes-for = c.threes_for-t in
    let flat-pages = c.flat_pages-flat in
    let directory = c.directory in
    let words_of = c.words_of-dir in
    let shadow2 = c.shadow2 in
    let words-of2 = c.words_of-sh2 in
    let p = c.loop-i in
    let i = c.in-Some.i in
    let step = given p.i-iterator p.invariant.0 c.in-Some.ensures.steps.1 in
    let table_of = c.table_of-pt in
    let s = c.args in
    let e = words_of.ensures ∙ ap (page s.b.bits s.m.now) directory.ensures in
    asks_stop s.b.bits s.m.now (root_map_test s.b.bits s.m.now) 1 words_of.result.now e step.1
    (root-row s.b.bits s.m.now i e step.1 step.2 table_of.ensures
    (words-of2.ensures ∙ ap (page s.b.bits s.m.now) shadow2.ensures) c.read.ensures
    c.table_of-s2.ensures (ap (λ (x : ℕ). i * x) c.page_words.ensures.0) pages.ensures
    threes-for.ensures.0 flat-pages.ensures c.root_row.ensures)
    (ap not c.if-not-root_row.true) (rw step.0 p.invariant.1)

pub loop-i-preserved : goal.loop-i-preserved
loop-i-preserved c =
    let pages = c.pages-n in
    let threes-for = c.threes_for-t in
    let flat-pages = c.flat_pages-flat in
    let directory = c.directory in
    let words_of = c.words_of-dir in
    let shadow2 = c.shadow2 in
    let words-of2 = c.words_of-sh2 in
    let p = c.loop-i in
    let i = c.in-Some.i in
    let step = given p.i-iterator p.invariant.0 c.in-Some.ensures.steps.1 in
    let table_of = c.table_of-pt in
    let read = c.read in
    let s = c.args in
    let dir = words_of.result.now in
    let e = words_of.ensures ∙ ap (page s.b.bits s.m.now) directory.ensures in (
      c.in-Some.ensures.steps.0 ∙ p.invariant.0,
      asks_next s.b.bits s.m.now (root_map_test s.b.bits s.m.now) 1 dir e step.1
          (root-row s.b.bits s.m.now i e step.1 step.2 table_of.ensures
          (words-of2.ensures ∙ ap (page s.b.bits s.m.now) shadow2.ensures) read.ensures c.table_of-s2.ensures
          (ap (λ (x : ℕ). i * x) c.page_words.ensures.0) pages.ensures threes-for.ensures.0 flat-pages.ensures
          c.root_row.ensures)
          (ap not c.if-not-root_row.false) step.3 (rw step.0 p.invariant.1),
    )

pub returns : goal.returns
returns c =
    let directory = c.directory in
    let words_of = c.words_of-dir in
    let s = c.args in
    sym (rows_end s.b.bits s.m.now (asking (root_map_test s.b.bits s.m.now)) 1 words_of.result.now
    (words_of.ensures ∙ ap (page s.b.bits s.m.now) directory.ensures) true (ended c.loop-i.i-iterator c.loop-i.invariant.0 c.in-None.ensures.steps.1) c.loop-i.invariant.1)
