-- `adding::adding::add_refusal` meets its contract. Behind the shared checks, each test that the code makes is one of the row. Assumes nothing.
use mathlib.Core.Bool.{not}
use mathlib.Core.Path.{refl, sym, ap, ◌∙◌}
use Prim.Native.Nat.{ℕ}
use native.Mathlib.Omega.{arith}
use borrow.Author.Tests.{le-leb, lt-leb}
use Rattle.memory.specs.Entry.{least_both}
use Rattle.answers.proofs.Numbers.{stopped}
use Rattle.rules.proofs.Rows.{on, at, none, first-is, goes_on}
use Rattle.rules.specs.Conditions.{no_three, unmapped}
use Rattle.rules.specs.Refusals.{refusals}
use Rattle.adding.proofs.adding.add_refusal.Goals as goal

pub returns-in_err-page_refusal : goal.returns-in_err-page_refusal
unfolding refusals
returns-in_err-page_refusal c = stopped _ _ c.from_residual.result _ c.from_residual.ensures.1 c.in_err-page_refusal.ensures

pub returns-then-r-ge6 : goal.returns-then-r-ge6
unfolding refusals
returns-then-r-ge6 c =
    let s = c.args in
    sym (first-is
    (at (le-leb least_both s.r (omega (arith, c.if-r-ge6.true)))))
    ∙ goes_on _ _ _ c.in_ok-page_refusal.ensures refl

pub returns-then-no_child : goal.returns-then-no_child
unfolding refusals
returns-then-no_child c =
    let s = c.args in
    sym (first-is
    (on (lt-leb least_both s.r (omega (arith, c.if-r-ge6.false)))
    (at (sym c.no_child.ensures ∙ c.if-no_child.true))))
    ∙ goes_on _ _ _ c.in_ok-page_refusal.ensures refl

pub returns-then-not_in_hand : goal.returns-then-not_in_hand
unfolding refusals
returns-then-not_in_hand c =
    sym (first-is
    (on (lt-leb _ _ c.if-r-ge6.false)
    (on (sym c.no_child.ensures ∙ c.if-no_child.false)
    (at (sym c.not_in_hand.ensures ∙ c.if-not_in_hand.true)))))
    ∙ goes_on _ _ _ c.in_ok-page_refusal.ensures refl

pub returns-then-lacks : goal.returns-then-lacks
unfolding refusals
returns-then-lacks c =
    sym (first-is
    (on (lt-leb _ _ c.if-r-ge6.false)
    (on (sym c.no_child.ensures ∙ c.if-no_child.false)
    (on (sym c.not_in_hand.ensures ∙ c.if-not_in_hand.false)
    (at (sym c.lacks.ensures ∙ c.if-lacks.true))))))
    ∙ goes_on _ _ _ c.in_ok-page_refusal.ensures refl

pub returns-then-no_three : goal.returns-then-no_three
unfolding refusals
returns-then-no_three c =
    let s = c.args in
    let k = c.child_of-k.ensures in
    sym (first-is
    (on (lt-leb _ _ c.if-r-ge6.false)
    (on (sym c.no_child.ensures ∙ c.if-no_child.false)
    (on (sym c.not_in_hand.ensures ∙ c.if-not_in_hand.false)
    (on (sym c.lacks.ensures ∙ c.if-lacks.false)
    (at (sym (c.no_three.ensures ∙ ap (λ (d : ℕ). no_three s.b.bits s.m.now d s.t) k) ∙ c.if-no_three.true)))))))
    ∙ goes_on _ _ _ c.in_ok-page_refusal.ensures refl

pub returns-then-not-unmapped : goal.returns-then-not-unmapped
unfolding refusals
returns-then-not-unmapped c =
    let s = c.args in
    let k = c.child_of-k.ensures in
    sym (first-is
    (on (lt-leb _ _ c.if-r-ge6.false)
    (on (sym c.no_child.ensures ∙ c.if-no_child.false)
    (on (sym c.not_in_hand.ensures ∙ c.if-not_in_hand.false)
    (on (sym c.lacks.ensures ∙ c.if-lacks.false)
    (on (sym (c.no_three.ensures ∙ ap (λ (d : ℕ). no_three s.b.bits s.m.now d s.t) k) ∙ c.if-no_three.false)
    (at (ap not (sym (c.unmapped.ensures ∙ ap (λ (d : ℕ). unmapped s.b.bits s.m.now d s.t) k)) ∙ (ap not c.if-not-unmapped.true)))))))))
    ∙ goes_on _ _ _ c.in_ok-page_refusal.ensures refl

pub returns : goal.returns
unfolding refusals
returns c =
    let s = c.args in
    let k = c.child_of-k.ensures in
    sym (first-is
    (on (lt-leb _ _ c.if-r-ge6.false)
    (on (sym c.no_child.ensures ∙ c.if-no_child.false)
    (on (sym c.not_in_hand.ensures ∙ c.if-not_in_hand.false)
    (on (sym c.lacks.ensures ∙ c.if-lacks.false)
    (on (sym (c.no_three.ensures ∙ ap (λ (d : ℕ). no_three s.b.bits s.m.now d s.t) k) ∙ c.if-no_three.false)
    (on (ap not (sym (c.unmapped.ensures ∙ ap (λ (d : ℕ). unmapped s.b.bits s.m.now d s.t) k)) ∙ (ap not c.if-not-unmapped.false))
    none)))))))
    ∙ goes_on _ _ _ c.in_ok-page_refusal.ensures refl
