-- `tally::tally::lent_count` meets its contract. Assumes nothing.
use mathlib.Core.List.{List}
use mathlib.Core.Path.{refl, sym, ap, ◌∙◌, subst}
use Prim.Native.Nat.{ℕ, ◌+◌, ◌≤◌}
use native.Mathlib.Omega.{arith}
use lib.ListN.{length}
use Rattle.memory.specs.Geometry.{page_words}
use Rattle.memory.specs.Words.{page}
use Rattle.memory.proofs.Widths.{words-most}
use Rattle.tally.specs.Run.{adding}
use Rattle.tally.proofs.Laws.Rows.{rows-first, rows_next, rows_end, table-short, dir_short}
use Rattle.tally.proofs.Laws.Sweeps.{lent_at, lent-run, lent_row}
use Rattle.tally.proofs.Laws.Used.{begun, given, next_low}
use Rattle.tally.proofs.tally.lent_count.Goals as goal

pub loop-i-init : goal.loop-i-init
loop-i-init c =
    let s = c.args in
    let first = begun c.into_iter-i-iterator.ensures.into_iter_gives c.used_places-i-items.ensures in
    let e = first.0 ∙ c.words_of-dir.ensures ∙ ap (page s.b.bits s.m.now) c.directory.ensures in
    (e, omega arith, rows-first s.b.bits s.m.now (adding (lent_at s.b.bits s.m.now s.d.0 s.v)) s.d.0 c.words_of-dir.result.now (c.words_of-dir.ensures ∙ ap (page s.b.bits s.m.now) c.directory.ensures) 0 (lent-run s.b.bits s.m.now s.d.0 s.v) first.1)

pub lent_row-k-requires : goal.lent_row-k-requires
lent_row-k-requires c =
    let s = c.args in
    record { short = subst (λ (t : List ℕ). length t ≤ page_words s.b.bits) (sym c.table_of.ensures) (table-short s.b.bits s.m.now c.read.result) }

pub overflow_add-k : goal.overflow_add-k
overflow_add-k c =
    let s = c.args in
    let p = c.loop-i in
    let step = given p.i-iterator refl c.in-Some.ensures.steps.1 in
    omega (arith, c.lent_row-k.ensures.1, p.invariant.1, step.0, step.1, dir_short s.b.bits s.m.now _ p.invariant.0, words-most s.b.bits s.b.known.1)

pub loop-i-preserved : goal.loop-i-preserved
loop-i-preserved c =
    let s = c.args in
    let p = c.loop-i in
    let w = p.i-iterator in
    let step = given w refl c.in-Some.ensures.steps.1 in
    let e = p.invariant.0 in
    let e1 = c.words_of-sh1.ensures ∙ ap (page s.b.bits s.m.now) c.shadow1.ensures in (
      c.in-Some.ensures.steps.0 ∙ e,
      omega (arith, step.0, next_low w.words.now c.in-Some.i step.3, c.lent_row-k.ensures.1, p.invariant.1),
      rows_next s.b.bits s.m.now (adding (lent_at s.b.bits s.m.now s.d.0 s.v)) s.d.0 w.words.now e p.k (p.k + c.lent_row-k.result) step.1
          (lent_row s.b.bits s.m.now s.d.0 c.in-Some.i e step.1 step.2 refl e1 c.read.ensures c.table_of.ensures s.v p.k c.lent_row-k.ensures.0)
          step.3 (rw step.0 p.invariant.2),
    )

pub returns : goal.returns
returns c =
    let s = c.args in
    let p = c.loop-i in
    let end = c.in-None.ensures.steps.1 in
    sym (rows_end s.b.bits s.m.now (adding (lent_at s.b.bits s.m.now s.d.0 s.v)) s.d.0 p.i-iterator.words.now p.invariant.0 p.k (omega (arith, end)) p.invariant.2)
