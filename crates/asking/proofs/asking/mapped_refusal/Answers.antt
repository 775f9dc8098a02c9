-- `asking::asking::mapped_refusal` meets its contract. The row goes on behind the checks of the one address. Assumes nothing.
use Rattle.answers.proofs.Numbers.{stopped}
use Rattle.rules.specs.Refusals.{refusals}
use Rattle.moves.proofs.OnePage.{one-page}
use Rattle.asking.proofs.asking.mapped_refusal.Goals as goal

pub returns-in_err-page_refusal : goal.returns-in_err-page_refusal
unfolding refusals
returns-in_err-page_refusal c =
    let s = c.args in
    one-page s.b.bits s.m.now s.p _ (stopped _ _ c.from_residual.result _ c.from_residual.ensures.1 c.in_err-page_refusal.ensures)
