-- `judge::cells::cells_test` meets its contract. Assumes nothing.
use Prim.Native.Nat.{ℕ, ◌*◌}
use mathlib.Core.Path.{◌≡◌, refl, sym, ap, ◌∙◌}
use mathlib.Core.Logic.{◌≢◌}
use mathlib.Core.List.{List}
use mathlib.Core.Bool.{Bool, true, false, not, ◌||◌, or-true}
use native.Mathlib.Omega.{arith}
use lib.Dec.{eqb}
use borrow.Author.Tests.{eq-eqb, ne_eqb}
use Rattle.walk.specs.Finite.{all}
use Rattle.memory.specs.Geometry.{page_words}
use Rattle.memory.specs.Words.{word, page}
use Rattle.memory.specs.Partition.{directory, parent}
use Rattle.memory.specs.Partition as partition
use Rattle.memory.specs.Counts.{tabled}
use Rattle.memory.proofs.Widths.{words-most}
use Rattle.tally.specs.Rows.{Lends}
use Rattle.judge.specs.Alone.{cells_test}
use Rattle.judge.proofs.Laws.Numbers.{most-pages, row_in}
use Rattle.tally.proofs.Laws.Used.{begun, given, ended}
use Rattle.judging.specs.Quick as Quick
use Rattle.judging.specs.Quick.{largest, cell, sources, rising, lent_count}
use Rattle.tally.specs.Run.{asking}
use Rattle.tally.proofs.Laws.Rows.{rows-first, rows_next, rows_end, asks_next, asks_stop, dir_short}
use Rattle.tally.proofs.Laws.Sweeps.{above_at, cells-run, cells-row, rise-run, rise-row}
use Rattle.judge.proofs.cells.cells_test.Goals as goal

-- the test of d, which the code knows as a, by its cells, and by t: the last of its shadow 2 words as long as they rise
module _ (b : ℕ) (m : List ℕ) (n : ℕ) {a d : ℕ} (e : a ≡ d) where
  cells-fail : false ≡ all (cell b m a) (tabled b m a) → false ≡ cells_test b m d n
  unfolding cells_test
  cells-fail h = rw (sym e, sym h) refl

  module _ {t : ℕ} (h : all (cell b m a) (tabled b m a) ≡ true) (q : Quick.top 0 (sources b m a) ≡ t) where
    passed : (u : Bool) → eqb t largest ≡ u → cells_test b m d n ≡ (eqb d 1 || (not u || eqb (lent_count b m (parent b m d) (word b m d 0)) n))
    unfolding cells_test rising
    passed u k = rw (sym e, h, q, k) refl

    cells-rise : t ≢ largest → true ≡ cells_test b m d n
    cells-rise k = sym (passed false (ne_eqb t largest k) ∙ or-true (eqb d 1))

    cells_count : {r : Bool} → t ≡ largest → r ≡ (eqb d 1 || eqb (lent_count b m (parent b m d) (word b m d 0)) n) → r ≡ cells_test b m d n
    cells_count k g = g ∙ sym (passed true (eq-eqb t largest k))

-- what the code looked up of its own tables, in the memory that it was given
own-at : (b : ℕ) (m : List ℕ) (d p q : ℕ) {b' : ℕ} {m' : List ℕ} → b' ≡ b → m' ≡ m → Lends b' m' d p q → Lends b m d p q
own-at b m d p q e f h = rw (sym e, sym f) h

pub loop-i-init : goal.loop-i-init
loop-i-init c =
    let s = c.args in
    let d = c.looked_up-a.result.descriptor.0 in
    let dir = c.words_of-dir.result.now in
    let first = begun c.into_iter-i-iterator.ensures.into_iter_gives c.used_places-i-items.ensures in (
      first.0,
      (λ e. (
        rows-first s.b.bits s.m.now (asking (cell s.b.bits s.m.now d)) d dir e true (cells-run s.b.bits s.m.now d) first.1,
        rows-first s.b.bits s.m.now (above_at s.b.bits s.m.now d) d dir e 0 (rise-run s.b.bits s.m.now d) first.1,
      )),
    )

pub bounds-dir-i : goal.bounds-dir-i
bounds-dir-i c = (given c.loop-i.i-iterator c.loop-i.invariant.0 c.in-Some.ensures.steps.1).1

pub overflow_cast-i : goal.overflow_cast-i
overflow_cast-i c =
    let s = c.args in
    let p = c.loop-i in
    let step = given p.i-iterator p.invariant.0 c.in-Some.ensures.steps.1 in
    omega (arith, step.1, dir_short s.b.bits s.m.now _ c.words_of-dir.ensures, words-most s.b.bits s.b.known.1)

pub overflow_mul-i : goal.overflow_mul-i
overflow_mul-i c =
    let s = c.args in
    let p = c.loop-i in
    let i = c.in-Some.i in
    let step = given p.i-iterator p.invariant.0 c.in-Some.ensures.steps.1 in
    let e : i * c.page_words.result ≡ i * page_words s.b.bits = rw c.page_words.ensures.0 in
    omega (arith, e, row_in s.b.bits i (omega (arith, step.1, dir_short s.b.bits s.m.now _ c.words_of-dir.ensures)), most-pages s.b.bits s.b.known.1)

pub cells_row-requires : goal.cells_row-requires
cells_row-requires c =
    let s = c.args in
    let p = c.loop-i in
    let i = c.in-Some.i in
    let step = given p.i-iterator p.invariant.0 c.in-Some.ensures.steps.1 in
    let e : i * c.page_words.result ≡ i * page_words s.b.bits = rw c.page_words.ensures.0 in record {
      row = rw c.looked_up-a.ensures.0 omega (arith, e, row_in s.b.bits i (omega (arith, step.1, dir_short s.b.bits s.m.now _ c.words_of-dir.ensures)));
    }

pub returns-in_default : goal.returns-in_default
returns-in_default c =
    let s = c.args in
    let looked-up = c.looked_up-a in
    let d = looked-up.result.descriptor.0 in
    let at = looked-up.ensures in
    let own = own-at s.b.bits s.m.now d looked-up.result.own.directory.0 looked-up.result.own.shadow1.0 at.0 at.1 looked-up.result.at_own in
    let words_of = c.words_of-dir in
    let words-of2 = c.words_of-sh1 in
    let shadow2 = c.shadow2 in
    let words-of3 = c.words_of-sh2 in
    let p = c.loop-i in
    let i = c.in-Some.i in
    let step = given p.i-iterator p.invariant.0 c.in-Some.ensures.steps.1 in
    let table_of = c.table_of-pt in
    let read = c.read in
    let table-of2 = c.table_of-s1 in
    let read2 = c.read-in-loop-i in
    let table-of3 = c.table_of-s2 in
    let cells = c.in_default in
    let e = words_of.ensures ∙ ap (page s.b.bits s.m.now) own.0 in
    cells-fail s.b.bits s.m.now s.mapped looked-up.ensures.2
    (asks_stop s.b.bits s.m.now (cell s.b.bits s.m.now d) d words_of.result.now e step.1
    (cells-row s.b.bits s.m.now d i e step.1 step.2 table_of.ensures
    (words-of2.ensures ∙ ap (page s.b.bits s.m.now) own.1) read.ensures
    table-of2.ensures (words-of3.ensures ∙ ap (page s.b.bits s.m.now)
    (shadow2.ensures ∙ ap (partition.shadow2 s.b.bits s.m.now) (sym looked-up.ensures.2))) read2.ensures
    table-of3.ensures (ap (λ (x : ℕ). i * x) c.page_words.ensures.0) (rw (at.0, at.1) at cells.ensures.0))
    refl (rw step.0 (p.invariant.1 e).0))

pub loop-i-preserved : goal.loop-i-preserved
loop-i-preserved c =
    let s = c.args in
    let looked-up = c.looked_up-a in
    let d = looked-up.result.descriptor.0 in
    let at = looked-up.ensures in
    let own = own-at s.b.bits s.m.now d looked-up.result.own.directory.0 looked-up.result.own.shadow1.0 at.0 at.1 looked-up.result.at_own in
    let words_of = c.words_of-dir in
    let words-of2 = c.words_of-sh1 in
    let shadow2 = c.shadow2 in
    let words-of3 = c.words_of-sh2 in
    let p = c.loop-i in
    let i = c.in-Some.i in
    let step = given p.i-iterator p.invariant.0 c.in-Some.ensures.steps.1 in
    let table_of = c.table_of-pt in
    let read = c.read in
    let table-of2 = c.table_of-s1 in
    let read2 = c.read-in-loop-i in
    let table-of3 = c.table_of-s2 in
    let cells = c.in-Some-cells_row in
    let e1 = words-of2.ensures ∙ ap (page s.b.bits s.m.now) own.1 in
    let e2 = words-of3.ensures ∙ ap (page s.b.bits s.m.now) (shadow2.ensures ∙ ap (partition.shadow2 s.b.bits s.m.now) (sym looked-up.ensures.2)) in
    let dir = words_of.result.now in (
      c.in-Some.ensures.steps.0 ∙ p.invariant.0,
      (λ e. (
        asks_next s.b.bits s.m.now (cell s.b.bits s.m.now d) d dir e step.1
            (cells-row s.b.bits s.m.now d i e step.1 step.2 table_of.ensures e1 read.ensures table-of2.ensures
            e2 read2.ensures table-of3.ensures (ap (λ (x : ℕ). i * x) c.page_words.ensures.0) (rw (at.0, at.1) at cells.ensures.0))
            refl step.3 (rw step.0 (p.invariant.1 e).0),
        rows_next s.b.bits s.m.now (above_at s.b.bits s.m.now d) d dir e p.top cells.u step.1
            (rise-row s.b.bits s.m.now d i e step.1 step.2 table_of.ensures e2 read2.ensures table-of3.ensures
            p.top
            (rw at.0 at cells.ensures.1))
            step.3 (rw step.0 (p.invariant.1 e).1),
      )),
    )

pub returns-then-top : goal.returns-then-top
returns-then-top c =
    let s = c.args in
    let looked-up = c.looked_up-a in
    let d = looked-up.result.descriptor.0 in
    let words_of = c.words_of-dir in
    let dir = words_of.result.now in
    let p = c.loop-i in
    let e = words_of.ensures ∙ ap (page s.b.bits s.m.now) (own-at s.b.bits s.m.now d looked-up.result.own.directory.0 looked-up.result.own.shadow1.0 looked-up.ensures.0 looked-up.ensures.1 looked-up.result.at_own).0 in
    let end = ended p.i-iterator p.invariant.0 c.in-None.ensures.steps.1 in
    cells-rise s.b.bits s.m.now s.mapped looked-up.ensures.2
    (rows_end s.b.bits s.m.now (asking (cell s.b.bits s.m.now d)) d dir e true end (p.invariant.1 e).0)
    (rows_end s.b.bits s.m.now (above_at s.b.bits s.m.now d) d dir e p.top end (p.invariant.1 e).1) c.if-top.true

pub returns : goal.returns
returns c =
    let s = c.args in
    let looked-up = c.looked_up-a in
    let d = looked-up.result.descriptor.0 in
    let words_of = c.words_of-dir in
    let dir = words_of.result.now in
    let p = c.loop-i in
    let e = words_of.ensures ∙ ap (page s.b.bits s.m.now) (own-at s.b.bits s.m.now d looked-up.result.own.directory.0 looked-up.result.own.shadow1.0 looked-up.ensures.0 looked-up.ensures.1 looked-up.result.at_own).0 in
    let end = ended p.i-iterator p.invariant.0 c.in-None.ensures.steps.1 in
    cells_count s.b.bits s.m.now s.mapped looked-up.ensures.2
    (rows_end s.b.bits s.m.now (asking (cell s.b.bits s.m.now d)) d dir e true end (p.invariant.1 e).0)
    (rows_end s.b.bits s.m.now (above_at s.b.bits s.m.now d) d dir e p.top end (p.invariant.1 e).1) c.if-top.false c.lent_test.ensures
