-- `judge::cells::Asked::cells_row` meets its contract. Assumes nothing.
use mathlib.Core.Bool.{not}
use mathlib.Core.Path.{ap}
use Prim.Native.Nat.{◌+◌}
use mathlib.Core.Path.{refl, sym, ◌∙◌}
use native.Mathlib.Omega.{arith}
use mathlib.Core.Bool.{true}
use lib.ListN.{get_or}
use Rattle.memory.specs.Geometry.{page_words, address}
use Rattle.tally.specs.Run.{asking}
use Rattle.tally.specs.Rows.{cell_words}
use Rattle.judge.proofs.Laws.Numbers.{most-pages}
use Rattle.tally.proofs.Laws.Run.{run-start, run_end, ask_next, ask_stop}
use Rattle.judge.proofs.Laws.Lent.{passed-next}
use Rattle.tally.proofs.Laws.Sweeps.{rise_in, cell-words, cells-past, rise-past, rise-next, rise-mapped, rise-unmapped}
use Rattle.judge.proofs.cells.Asked.cells_row.Goals as goal
use Rattle.judge.proofs.cells.Asked.cells_row.Goals.{then-c-ne0, else-c-ne0}

pub loop-j-init : goal.loop-j-init
loop-j-init c =
    let s = c.args in (
      run-start (asking (λ k. cell_words s.self.now.b.bits s.self.now.m.now s.self.now.descriptor.0 (address s.self.now.b.bits (s.v.0 + k)) (get_or s.pt.now k 0)
          (get_or s.s1.now k 0) (get_or s.s2.now k 0)))
          (page_words s.self.now.b.bits) true,
      refl,
      run-start (rise_in s.pt.now s.s2.now) (page_words s.self.now.b.bits) s.before,
    )

pub loop-j-preserved-then-empty_cells : goal.loop-j-preserved-then-empty_cells
loop-j-preserved-then-empty_cells c =
    let n = c.min-2 in
    let s = c.args in
    let p = c.loop-j in
    let e = n.ensures in
    let f = c.min.ensures in (
      p.invariant.0
          ∙ cells-past s.pt.now s.s1.now s.s2.now n.result p.j (omega (arith, e, f)) (omega (arith, e, f)) (omega (arith, e, f))
          c.empty_cells.ensures c.if-empty_cells.true s.self.now.b.bits s.self.now.m.now s.self.now.descriptor.0 s.v.0 (page_words s.self.now.b.bits),
      p.invariant.1,
      p.invariant.2
          ∙ rise-past s.pt.now s.s1.now s.s2.now n.result p.j (omega (arith, e, f)) (omega (arith, e, f)) (omega (arith, e, f))
          c.empty_cells.ensures c.if-empty_cells.true (page_words s.self.now.b.bits) p.top,
    )

pub overflow_add-v : goal.overflow_add-v
overflow_add-v c =
    let h = c.requires in
    let s = c.args in
    let page-words = c.page_words-end in
    omega (arith, h.row, most-pages s.self.now.b.bits s.self.now.b.known.1, page-words.ensures.0)

pub cell-requires : goal.cell-requires
cell-requires c =
    let h = c.requires in
    let page-words = c.page_words-end in
    let p = c.loop-j in
    record { page = omega (arith, h.row, page-words.ensures.0); passed = p.invariant.1 }

pub returns-then-not-cell : goal.returns-then-not-cell
returns-then-not-cell c =
    let page-words = c.page_words-end in
    let s = c.args in
    let p = c.loop-j in
    let r = c.words_at-c.ensures in (
      ask_stop (λ k. cell_words s.self.now.b.bits s.self.now.m.now s.self.now.descriptor.0 (address s.self.now.b.bits (s.v.0 + k)) (get_or s.pt.now k 0) (get_or s.s1.now k 0)
          (get_or s.s2.now k 0))
          (page_words s.self.now.b.bits) p.j (omega (arith, page-words.ensures.0))
          (c.cell.ensures ∙ cell-words s.self.now.b.bits s.self.now.m.now s.self.now.descriptor.0 (address s.self.now.b.bits (s.v.0 + p.j)) r.0 r.1 r.2)
          (ap not c.if-not-cell.true) p.invariant.0,
      tt,
    )

pub loop-j-preserved : goal.loop-j-preserved
loop-j-preserved c =
    let page-words = c.page_words-end in
    let cell = c.cell in
    let s = c.args in
    let p = c.loop-j in
    let w = c.words_at-c in
    let r = w.ensures in
    let left = (ap not c.if-not-cell.false) in (
      ask_next (λ k. cell_words s.self.now.b.bits s.self.now.m.now s.self.now.descriptor.0 (address s.self.now.b.bits (s.v.0 + k)) (get_or s.pt.now k 0) (get_or s.s1.now k 0)
          (get_or s.s2.now k 0))
          (page_words s.self.now.b.bits) p.j (omega (arith, page-words.ensures.0))
          (cell.ensures ∙ cell-words s.self.now.b.bits s.self.now.m.now s.self.now.descriptor.0 (address s.self.now.b.bits (s.v.0 + p.j)) r.0 r.1 r.2) left p.invariant.0,
      passed-next s.self.now.b.bits s.self.now.m.now s.self.now.descriptor.0 (address s.self.now.b.bits (s.v.0 + p.j)) w.result.w w.result.x w.result.y p.to p.invariant.1
          cell.ensures left c.last_lent-to.ensures,
      rise-next s.pt.now s.s2.now (page_words s.self.now.b.bits) p.j p.top (omega (arith, page-words.ensures.0)) r.0 r.2
          (elim c.if-c-ne0.branch [
            | then-c-ne0 y ↦ y.top-is ∙ rise-mapped p.top w.result.w w.result.y y.if-c-ne0.true y.risen-top.ensures
            | else-c-ne0 y ↦ y.top-is ∙ rise-unmapped p.top w.result.w w.result.y y.if-c-ne0.false
          ])
          p.invariant.2,
    )

pub returns : goal.returns
returns c =
    let s = c.args in
    let p = c.loop-j in
    let page-words = c.page_words-end in (
      sym (p.invariant.0 ∙ run_end (asking (λ k. cell_words s.self.now.b.bits s.self.now.m.now s.self.now.descriptor.0 (address s.self.now.b.bits (s.v.0 + k)) (get_or s.pt.now k 0)
          (get_or s.s1.now k 0) (get_or s.s2.now k 0))) (page_words s.self.now.b.bits) p.j true (omega (arith, page-words.ensures.0))),
      sym (p.invariant.2 ∙ run_end (rise_in s.pt.now s.s2.now) (page_words s.self.now.b.bits) p.j p.top (omega (arith, page-words.ensures.0))),
    )
