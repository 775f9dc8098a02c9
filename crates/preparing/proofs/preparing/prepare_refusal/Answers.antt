-- `preparing::preparing::prepare_refusal` meets its contract. Behind the shared checks, each test that the code makes is one of the row. Assumes nothing.
use mathlib.Core.Bool.{not}
use mathlib.Core.Path.{refl, subst, sym, ap, ◌∙◌}
use Prim.Native.Nat.{ℕ}
use Rattle.answers.proofs.Numbers.{stopped}
use Rattle.rules.proofs.Rows.{First, on, at, first-is, first-self, goes_on}
use Rattle.rules.specs.Conditions.{no_three, list_full, chain}
use Rattle.rules.specs.Refusals.{refusals}
use Rattle.preparing.proofs.preparing.prepare_refusal.Goals as goal

pub returns-in_err-child_refusal : goal.returns-in_err-child_refusal
unfolding refusals
returns-in_err-child_refusal c = stopped _ _ c.from_residual.result _ c.from_residual.ensures.1 c.in_err-child_refusal.ensures

pub returns-then-not-no_three : goal.returns-then-not-no_three
unfolding refusals
returns-then-not-no_three c =
    let s = c.args in
    let k = c.child_of-k.ensures in
    sym (first-is
    (at (ap not (sym (c.no_three.ensures ∙ ap (λ (d : ℕ). no_three s.b.bits s.m.now d s.t) k)) ∙ (ap not c.if-not-no_three.true))))
    ∙ goes_on _ _ _ c.in_ok-child_refusal.ensures refl

pub returns-then-list_full : goal.returns-then-list_full
unfolding refusals
returns-then-list_full c =
    let s = c.args in
    let k = c.child_of-k.ensures in
    sym (first-is
    (on (ap not (sym (c.no_three.ensures ∙ ap (λ (d : ℕ). no_three s.b.bits s.m.now d s.t) k)) ∙ (ap not c.if-not-no_three.false))
    (at (sym (c.list_full.ensures ∙ ap (λ (d : ℕ). list_full s.b.bits s.m.now d s.t) k) ∙ c.if-list_full.true))))
    ∙ goes_on _ _ _ c.in_ok-child_refusal.ensures refl

pub returns : goal.returns
unfolding refusals
returns c =
    let s = c.args in
    let k = c.child_of-k.ensures in
    sym (first-is
    (on (ap not (sym (c.no_three.ensures ∙ ap (λ (d : ℕ). no_three s.b.bits s.m.now d s.t) k)) ∙ (ap not c.if-not-no_three.false))
    (on (sym (c.list_full.ensures ∙ ap (λ (d : ℕ). list_full s.b.bits s.m.now d s.t) k) ∙ c.if-list_full.false)
    (subst (First (chain s.b.bits s.m.now s.p)) (sym c.chain_refusal.ensures) (first-self (chain s.b.bits s.m.now s.p))))))
    ∙ goes_on _ _ _ c.in_ok-child_refusal.ensures refl
