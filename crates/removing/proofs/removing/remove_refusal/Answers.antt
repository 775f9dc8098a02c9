-- `removing::removing::remove_refusal` meets its contract: at the exit the row stops in its beginning. Assumes nothing.
use Rattle.answers.proofs.Numbers.{stopped}
use Rattle.rules.specs.Refusals.{refusals}
use Rattle.removing.proofs.removing.remove_refusal.Goals as goal

pub returns-in_err-child_refusal : goal.returns-in_err-child_refusal
unfolding refusals
returns-in_err-child_refusal c = stopped _ _ c.from_residual.result _ c.from_residual.ensures.1 c.in_err-child_refusal.ensures
