-- `notifying::notifying::notify_refusal` meets its contract: at the exit the row stops in its beginning. Assumes nothing.
use Rattle.answers.proofs.Numbers.{stopped}
use Rattle.rules.specs.Conditions.{toward}
use Rattle.notifying.proofs.notifying.notify_refusal.Goals as goal

pub returns-in_err-toward_refusal : goal.returns-in_err-toward_refusal
returns-in_err-toward_refusal c =
    let s = c.args in
    stopped (toward s.b.bits s.m.now s.t) _ c.from_residual.result _ c.from_residual.ensures.1 c.in_err-toward_refusal.ensures
