-- `preparing::preparing::prepare` meets its contract. The answer and the memory go by what the test gave. Assumes nothing.
use mathlib.Core.Path.{refl, sym}
use Rattle.rules.specs.Call.{prepare}
use Rattle.rules.specs.Calls.{result}
use Rattle.moves.proofs.Whole.{refused, done}
use Rattle.threes.proofs.StandLaws.{prepare-few}
use Rattle.preparing.proofs.preparing.prepare.Goals as goal

pub returns-in_err-prepare_refusal : goal.returns-in_err-prepare_refusal
returns-in_err-prepare_refusal c =
    let s = c.args in
    refused s.b.bits s.m.now (prepare s.c s.t s.p) c.from_residual.result _ c.from_residual.ensures.1 c.in_err-prepare_refusal.ensures

pub prepare_effect-requires : goal.prepare_effect-requires
prepare_effect-requires c =
    let s = c.args in
    record { few = prepare-few s.b.bits s.m.now s.c s.t s.p (sym c.in_ok-prepare_refusal.ensures) }

pub returns : goal.returns
unfolding result
returns c =
    let s = c.args in
    done s.b.bits s.m.now (prepare s.c s.t s.p) c.in_ok-prepare_refusal.ensures 0 refl c.prepare_effect.ensures
