-- `tally::marks::mark_hand` meets its contract. Assumes nothing.
use Rattle.own_pages.proofs.Laws.Tests.{equal, unequal}
use Rattle.walk.specs.Marks.{mark}
use borrow.Author.Tests.{eq-eqb, ne_eqb}
use mathlib.Core.Path.{refl, sym, ap, ◌∙◌}
use Rattle.tally.specs.Bits.{marks_in}
use Rattle.tally.proofs.marks.mark_hand.Goals as goal

pub returns-then-w-eq0 : goal.returns-then-w-eq0
returns-then-w-eq0 c = rw (eq-eqb c.args.w 0 c.if-w-eq0.true) refl

pub returns-then-accessible-ne1 : goal.returns-then-accessible-ne1
returns-then-accessible-ne1 c = rw (ne_eqb c.args.w 0 c.if-w-eq0.false, unequal c.accessible.ensures refl c.if-accessible-ne1.true) refl

pub returns-then-x-ne0 : goal.returns-then-x-ne0
returns-then-x-ne0 c =
    let s = c.args in
    rw (ne_eqb s.w 0 c.if-w-eq0.false, equal c.accessible.ensures refl c.if-accessible-ne1.false, ne_eqb s.x 0 c.if-x-ne0.true) refl

pub returns : goal.returns
returns c =
    let s = c.args in
    let first = c.if-w-eq0 in
    let accessible = c.accessible in
    let second = c.if-accessible-ne1 in
    let third = c.if-x-ne0 in
    rw (ne_eqb s.w 0 first.false, equal accessible.ensures refl second.false, eq-eqb s.x 0 third.false)
    (ap (mark (marks_in s.seen.now)) (sym c.page_of.ensures) ∙ c.mark_page.ensures)
