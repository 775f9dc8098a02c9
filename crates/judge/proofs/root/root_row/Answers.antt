-- `judge::root::root_row` meets its contract. Assumes nothing.
use mathlib.Core.Bool.{not}
use mathlib.Core.Path.{ap}
use Prim.Native.Nat.{◌+◌}
use mathlib.Core.Path.{◌≡◌, sym, ◌∙◌}
use mathlib.Core.Bool.{true}
use native.Mathlib.Omega.{arith}
use Rattle.memory.specs.Geometry.{page_words}
use Rattle.tally.specs.Run.{asking}
use Rattle.memory.proofs.Widths.{words-most}
use Rattle.tally.proofs.Laws.Run.{bit_is, from-most, counted_next, counted-end, run-start, run_end, ask_next, ask_stop}
use Rattle.tally.proofs.Laws.Sweeps.{root-words}
use Rattle.judge.proofs.Laws.Flat.{asked_at, flat-stop, flat_stop₂, flat-past}
use Rattle.judge.proofs.root.root_row.Goals as goal

pub loop-i-init : goal.loop-i-init
loop-i-init c =
    let s = c.args in (
      omega arith,
      (
        omega arith,
        (λ e. run-start (asking (asked_at s.b.bits s.t s.flat s.v.0 s.pt.now s.s2.now)) (page_words s.b.bits) true),
        λ l. absurd (omega (arith, l)),
      ),
    )

pub overflow_add-k : goal.overflow_add-k
overflow_add-k c =
    let h = c.requires in
    let s = c.args in
    let least = c.min-n in
    let flat = c.flat_places-e in
    let p = c.loop-i in
    omega (arith, h.short, words-most s.b.bits s.b.known.1, least.ensures, flat.ensures, p.invariant.0, p.invariant.1.0, c.from-k.ensures, from-most c.root_cell.result)

pub loop-i-preserved : goal.loop-i-preserved
loop-i-preserved c =
    let h = c.requires in
    let least = c.min-n in
    let flat = c.flat_places-e in
    let s = c.args in
    let p = c.loop-i in (
      omega arith,
      counted_next (asked_at s.b.bits s.t s.flat s.v.0 s.pt.now s.s2.now) (page_words s.b.bits) p.i
          (omega (arith, h.short, least.ensures, flat.ensures)) (bit_is c.from-k.ensures c.root_cell.ensures) p.invariant.1,
    )

pub returns-then-k-e : goal.returns-then-k-e
returns-then-k-e c = c.loop-i.invariant.1.2 (omega (arith, c.if-k-e.true, c.loop-i-test.false))

pub returns-then-not-zeros : goal.returns-then-not-zeros
returns-then-not-zeros c =
    let h = c.requires in
    let s = c.args in
    let least = c.min-n in
    let flat = c.flat_places-e in
    let p = c.loop-i in
    let e : p.i ≡ flat.result = omega (arith, p.invariant.0, c.loop-i-test.false) in
    let z : p.k ≡ p.i = omega (arith, p.invariant.1.0, c.if-k-e.false, e) in
    flat-stop s.b.bits s.t s.flat s.v.0 s.pt.now s.s2.now (page_words s.b.bits) least.result flat.ensures
    (omega (arith, h.short, least.ensures))
    (counted-end (asked_at s.b.bits s.t s.flat s.v.0 s.pt.now s.s2.now) (page_words s.b.bits) e z p.invariant.1)
    c.zeros.ensures (ap not c.if-not-zeros.true)

pub returns-then-not-zeros-2 : goal.returns-then-not-zeros-2
returns-then-not-zeros-2 c =
    let h = c.requires in
    let s = c.args in
    let least = c.min-n in
    let flat = c.flat_places-e in
    let p = c.loop-i in
    let e : p.i ≡ flat.result = omega (arith, p.invariant.0, c.loop-i-test.false) in
    let z : p.k ≡ p.i = omega (arith, p.invariant.1.0, c.if-k-e.false, e) in
    flat_stop₂ s.b.bits s.t s.flat s.v.0 s.pt.now s.s2.now (page_words s.b.bits) least.result flat.ensures
    (omega (arith, h.short, least.ensures))
    (counted-end (asked_at s.b.bits s.t s.flat s.v.0 s.pt.now s.s2.now) (page_words s.b.bits) e z p.invariant.1)
    c.zeros-2.ensures (ap not c.if-not-zeros-2.true)

pub loop-j-init : goal.loop-j-init
loop-j-init c =
    let h = c.requires in
    let s = c.args in
    let least = c.min-n in
    let flat = c.flat_places-e in
    let p = c.loop-i in
    let e : p.i ≡ flat.result = omega (arith, p.invariant.0, c.loop-i-test.false) in
    let z : p.k ≡ p.i = omega (arith, p.invariant.1.0, c.if-k-e.false, e) in (
      omega (arith, h.short, least.ensures),
      flat-past s.b.bits s.t s.flat s.v.0 s.pt.now s.s2.now (page_words s.b.bits) least.result flat.ensures
          (omega (arith, h.short, least.ensures))
          (counted-end (asked_at s.b.bits s.t s.flat s.v.0 s.pt.now s.s2.now) (page_words s.b.bits) e z p.invariant.1)
          c.zeros.ensures (ap not c.if-not-zeros.false) c.zeros-2.ensures
          (ap not c.if-not-zeros-2.false),
    )

pub returns-then-not-root_cell : goal.returns-then-not-root_cell
returns-then-not-root_cell c =
    let page-words = c.page_words-end in
    let s = c.args in
    let p = c.loop-j in
    ask_stop (asked_at s.b.bits s.t s.flat s.v.0 s.pt.now s.s2.now) (page_words s.b.bits) p.j
    (omega (arith, page-words.ensures.0))
    (c.root_cell-in-loop-j.ensures ∙ root-words s.b.bits s.t s.flat (s.v.0 + p.j) c.read.ensures
    c.read-in-loop-j.ensures)
    (ap not c.if-not-root_cell.true) p.invariant.1

pub loop-j-preserved : goal.loop-j-preserved
loop-j-preserved c =
    let page-words = c.page_words-end in
    let s = c.args in
    let p = c.loop-j in (
      omega (arith, page-words.ensures.0),
      ask_next (asked_at s.b.bits s.t s.flat s.v.0 s.pt.now s.s2.now) (page_words s.b.bits) p.j
          (omega (arith, page-words.ensures.0))
          (c.root_cell-in-loop-j.ensures ∙ root-words s.b.bits s.t s.flat (s.v.0 + p.j) c.read.ensures
          c.read-in-loop-j.ensures)
          (ap not c.if-not-root_cell.false) p.invariant.1,
    )

pub returns : goal.returns
returns c =
    let s = c.args in
    let p = c.loop-j in
    sym (p.invariant.1 ∙ run_end (asking (asked_at s.b.bits s.t s.flat s.v.0 s.pt.now s.s2.now))
    (page_words s.b.bits) p.j true (omega (arith, c.page_words-end.ensures.0)))
