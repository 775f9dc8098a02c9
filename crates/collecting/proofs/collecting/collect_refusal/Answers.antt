-- `collecting::collecting::collect_refusal` meets its contract. Behind the shared checks, each test that the code makes is one of the row. Assumes nothing.
use mathlib.Core.Path.{refl, sym, ap, ◌∙◌}
use Prim.Native.Nat.{ℕ}
use Rattle.answers.proofs.Numbers.{stopped}
use Rattle.rules.proofs.Rows.{on, at, none, first-is, goes_on}
use Rattle.rules.specs.Conditions.{no_three, any_mapping}
use Rattle.rules.specs.Refusals.{refusals}
use Rattle.collecting.proofs.collecting.collect_refusal.Goals as goal

pub returns-in_err-child_refusal : goal.returns-in_err-child_refusal
unfolding refusals
returns-in_err-child_refusal c = stopped _ _ c.from_residual.result _ c.from_residual.ensures.1 c.in_err-child_refusal.ensures

pub returns-then-no_three : goal.returns-then-no_three
unfolding refusals
returns-then-no_three c =
    let s = c.args in
    let k = c.child_of-k.ensures in
    sym (first-is
    (at (sym (c.no_three.ensures ∙ ap (λ (d : ℕ). no_three s.b.bits s.m.now d s.t) k) ∙ c.if-no_three.true)))
    ∙ goes_on _ _ _ c.in_ok-child_refusal.ensures refl

pub returns-then-any_mapping : goal.returns-then-any_mapping
unfolding refusals
returns-then-any_mapping c =
    let s = c.args in
    let k = c.child_of-k.ensures in
    sym (first-is
    (on (sym (c.no_three.ensures ∙ ap (λ (d : ℕ). no_three s.b.bits s.m.now d s.t) k) ∙ c.if-no_three.false)
    (at (sym (c.any_mapping.ensures ∙ ap (λ (d : ℕ). any_mapping s.b.bits s.m.now d s.t) k) ∙ c.if-any_mapping.true))))
    ∙ goes_on _ _ _ c.in_ok-child_refusal.ensures refl

pub returns : goal.returns
unfolding refusals
returns c =
    let s = c.args in
    let k = c.child_of-k.ensures in
    sym (first-is
    (on (sym (c.no_three.ensures ∙ ap (λ (d : ℕ). no_three s.b.bits s.m.now d s.t) k) ∙ c.if-no_three.false)
    (on (sym (c.any_mapping.ensures ∙ ap (λ (d : ℕ). any_mapping s.b.bits s.m.now d s.t) k) ∙ c.if-any_mapping.false)
    none)))
    ∙ goes_on _ _ _ c.in_ok-child_refusal.ensures refl
