-- `moves::rows::child_refusal` meets its contract. The row goes on behind the checks of the addresses. Assumes nothing.
use mathlib.Core.Path.{refl, sym, ◌∙◌}
use Rattle.answers.proofs.Numbers.{stopped}
use Rattle.rules.proofs.Rows.{on, at, none, first-is, goes_on}
use Rattle.moves.proofs.rows.child_refusal.Goals as goal

pub returns-in_err-page_refusal : goal.returns-in_err-page_refusal
returns-in_err-page_refusal c = stopped _ _ c.from_residual.result _ c.from_residual.ensures.1 c.in_err-page_refusal.ensures

pub returns-then-no_child : goal.returns-then-no_child
returns-then-no_child c = sym (first-is (at (sym c.no_child.ensures ∙ c.if-no_child.true))) ∙ goes_on _ _ _ c.in_ok-page_refusal.ensures refl

pub returns : goal.returns
returns c = sym (first-is (on (sym c.no_child.ensures ∙ c.if-no_child.false) none)) ∙ goes_on _ _ _ c.in_ok-page_refusal.ensures refl
