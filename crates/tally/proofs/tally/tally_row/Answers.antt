-- `tally::tally::tally_row` meets its contract. Assumes nothing.
use mathlib.Core.Bool.{not}
use Prim.Native.Nat.{ℕ, ◌+◌}
use mathlib.Core.Path.{◌≡◌, refl, sym, ap, ◌∙◌}
use native.Mathlib.Omega.{arith}
use lib.ListN.{length, get_or}
use Rattle.memory.proofs.Widths.{words-most}
use Rattle.tally.proofs.Laws.Blocks.{empty-end, empty-word}
use Rattle.tally.proofs.Laws.Tally.{tally_start, tally_past, tally_next, tally_lent}
use Rattle.tally.proofs.Laws.Run.{bit_is, from-most}
use Rattle.tally.proofs.Laws.Tally.{tally_stop, tally_mapped, tally_shut, tally_due, tally_hand}
use Rattle.tally.proofs.tally.tally_row.Goals as goal
use Rattle.tally.proofs.tally.tally_row.Goals.{then-x-le1+else-not-mark_hand, else-x-le1}

pub loop-j-init : goal.loop-j-init
loop-j-init c = let s = c.args in tally_start s.b.bits s.m.now s.pt.now s.s1.now s.seen.now

pub loop-j-preserved-then-block_of : goal.loop-j-preserved-then-block_of
loop-j-preserved-then-block_of c =
    let h = c.requires in
    let s = c.args in
    let p = c.loop-j in
    let e = sym c.block_of.ensures ∙ c.if-block_of.true in
    tally_past s.b.bits s.m.now s.pt.now s.s1.now h.short p.invariant (p.j + 8) (omega arith)
    (empty-end (length s.pt.now) p.j s.pt.now (omega arith) e) (empty-word (length s.pt.now) p.j s.pt.now (omega arith) e)

pub loop-j-preserved-then-w-eq0 : goal.loop-j-preserved-then-w-eq0
loop-j-preserved-then-w-eq0 c =
    let h = c.requires in
    let s = c.args in
    let p = c.loop-j in
    tally_past s.b.bits s.m.now s.pt.now s.s1.now h.short p.invariant (p.j + 1) (omega arith) (omega (arith, c.loop-j-test.true))
    (λ x a l. let e : x ≡ p.j = omega arith in ap (λ (y : ℕ). get_or s.pt.now y 0) e ∙ c.if-w-eq0.true)

pub returns-then-not-mark_hand : goal.returns-then-not-mark_hand
returns-then-not-mark_hand c =
    let h = c.requires in
    let p = c.loop-j in
    let test = c.loop-j-test in
    let second = c.if-w-eq0 in
    let read = c.read-x in
    let s = c.args in
    let m = c.mark_hand in (
      tally_stop s.b.bits s.m.now s.pt.now s.s1.now h.short p.invariant m.result m.new.seen test.true refl read.ensures second.false m.ensures
          (ap not c.if-not-mark_hand.true),
      tt,
    )

pub overflow_add-shut : goal.overflow_add-shut
overflow_add-shut c =
    let h = c.requires in
    let s = c.args in
    let p = c.loop-j in
    omega (arith, h.short, words-most s.b.bits s.b.known.1, p.invariant.inside, p.invariant.shut_most, c.from-shut.ensures, from-most c.is_shut.result)

pub overflow_add-due : goal.overflow_add-due
overflow_add-due c =
    let h = c.requires in
    let s = c.args in
    let p = c.loop-j in
    omega (arith, h.short, words-most s.b.bits s.b.known.1, p.invariant.inside, p.invariant.due_most, c.due_pages-due.ensures.1)

pub overflow_add-mapped : goal.overflow_add-mapped
overflow_add-mapped c =
    let h = c.requires in
    let s = c.args in
    let p = c.loop-j in
    omega (arith, h.short, words-most s.b.bits s.b.known.1, p.invariant.inside, p.invariant.mapped_most)

pub loop-j-preserved : goal.loop-j-preserved
loop-j-preserved c =
    let h = c.requires in
    let p = c.loop-j in
    let test = c.loop-j-test in
    let second = c.if-w-eq0 in
    let read = c.read-x in
    let s = c.args in
    elim c.if-x-le1.branch [
      | then-x-le1+else-not-mark_hand y ↦
          let m = y.mark_hand in
          tally_next s.b.bits s.m.now s.pt.now s.s1.now h.short p.invariant m.result m.new.seen test.true refl read.ensures second.false m.ensures
          y.seen-is y.shut-is y.due-is (bit_is y.from-shut.ensures y.is_shut.ensures) y.due_pages-due.ensures m.auto.seen (ap not y.if-not-mark_hand.false)
      | else-x-le1 y ↦
          tally_lent s.b.bits s.m.now s.pt.now s.s1.now h.short p.invariant test.true refl read.ensures second.false y.if-x-le1.false y.seen-is
          y.shut-is y.due-is
    ]

pub returns : goal.returns
returns c =
    let h = c.requires in
    let s = c.args in
    let t = c.loop-j.invariant in
    let end = c.loop-j-test.false in
    let short = h.short in
    let most = words-most s.b.bits s.b.known.1 in (
      tally_hand s.b.bits s.m.now s.pt.now s.s1.now short t end,
      (
        tally_mapped s.b.bits s.m.now s.pt.now s.s1.now short t end,
        tally_shut s.b.bits s.m.now s.pt.now s.s1.now short t end,
        tally_due s.b.bits s.m.now s.pt.now s.s1.now short t end,
        omega (arith, most, short, t.inside, t.mapped_most),
        omega (arith, most, short, t.inside, t.shut_most),
        omega (arith, most, short, t.inside, t.due_most),
      ),
    )
