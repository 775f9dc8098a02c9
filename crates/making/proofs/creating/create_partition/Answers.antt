-- `making::creating::create_partition` meets its contract. By whether there is a refusal. Assumes nothing.
use mathlib.Core.Path.{refl}
use Rattle.rules.specs.Calls.{result}
use Rattle.moves.proofs.Whole.{refused, done}
use Rattle.making.specs.Group.{creating}
use Rattle.making.proofs.creating.create_partition.Goals as goal

pub returns-in_err-create_refusal : goal.returns-in_err-create_refusal
returns-in_err-create_refusal c =
    let s = c.args in
    refused s.b.bits s.m.now (creating s.five) c.from_residual.result _ c.from_residual.ensures.1 c.in_err-create_refusal.ensures

pub returns : goal.returns
unfolding result
returns c =
    let s = c.args in
    done s.b.bits s.m.now (creating s.five) c.in_ok-create_refusal.ensures 0 refl c.create_effect.ensures
