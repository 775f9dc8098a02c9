-- `making::creating::create_refusal` meets its contract. Behind the shared checks, each test that the code makes is one of the row. Assumes nothing.
use mathlib.Core.Path.{refl, sym, ◌∙◌}
use native.Mathlib.Omega.{arith}
use Rattle.answers.proofs.Numbers.{stopped}
use Rattle.rules.proofs.Rows.{on, at, none, first-is, goes_on}
use Rattle.making.proofs.Create.{refusal_is, deep, shallow}
use Rattle.making.proofs.creating.create_refusal.Goals as goal

pub returns-in_err-page_refusal : goal.returns-in_err-page_refusal
returns-in_err-page_refusal c =
    refusal_is c.args.b.bits c.args.m.now c.args.five (omega (arith, c.well_formed.1.1.1.0))
    (stopped _ _ c.from_residual.result _ c.from_residual.ensures.1 c.in_err-page_refusal.ensures)

pub returns-then-twice : goal.returns-then-twice
returns-then-twice c =
    refusal_is c.args.b.bits c.args.m.now c.args.five (omega (arith, c.well_formed.1.1.1.0))
    (sym (first-is
    (at (sym c.twice.ensures ∙ c.if-twice.true)))
    ∙ goes_on _ _ _ c.in_ok-page_refusal.ensures refl)

pub returns-then-any_not_in_hand : goal.returns-then-any_not_in_hand
returns-then-any_not_in_hand c =
    refusal_is c.args.b.bits c.args.m.now c.args.five (omega (arith, c.well_formed.1.1.1.0))
    (sym (first-is
    (on (sym c.twice.ensures ∙ c.if-twice.false)
    (at (sym c.any_not_in_hand.ensures ∙ c.if-any_not_in_hand.true))))
    ∙ goes_on _ _ _ c.in_ok-page_refusal.ensures refl)

pub returns-then-any_lacks : goal.returns-then-any_lacks
returns-then-any_lacks c =
    refusal_is c.args.b.bits c.args.m.now c.args.five (omega (arith, c.well_formed.1.1.1.0))
    (sym (first-is
    (on (sym c.twice.ensures ∙ c.if-twice.false)
    (on (sym c.any_not_in_hand.ensures ∙ c.if-any_not_in_hand.false)
    (at (sym c.any_lacks.ensures ∙ c.if-any_lacks.true)))))
    ∙ goes_on _ _ _ c.in_ok-page_refusal.ensures refl)

pub returns-then-depth-ge8 : goal.returns-then-depth-ge8
returns-then-depth-ge8 c =
    refusal_is c.args.b.bits c.args.m.now c.args.five (omega (arith, c.well_formed.1.1.1.0))
    (sym (first-is
    (on (sym c.twice.ensures ∙ c.if-twice.false)
    (on (sym c.any_not_in_hand.ensures ∙ c.if-any_not_in_hand.false)
    (on (sym c.any_lacks.ensures ∙ c.if-any_lacks.false)
    (at (deep c.args.b.bits c.args.m.now c.depth.result c.current.result.0 c.depth.ensures c.current.ensures c.if-depth-ge8.true))))))
    ∙ goes_on _ _ _ c.in_ok-page_refusal.ensures refl)

pub returns : goal.returns
returns c =
    refusal_is c.args.b.bits c.args.m.now c.args.five (omega (arith, c.well_formed.1.1.1.0))
    (sym (first-is
    (on (sym c.twice.ensures ∙ c.if-twice.false)
    (on (sym c.any_not_in_hand.ensures ∙ c.if-any_not_in_hand.false)
    (on (sym c.any_lacks.ensures ∙ c.if-any_lacks.false)
    (on (shallow c.args.b.bits c.args.m.now c.depth.result c.current.result.0 c.depth.ensures c.current.ensures (omega arith))
    none)))))
    ∙ goes_on _ _ _ c.in_ok-page_refusal.ensures refl)
