-- `adding::adding::add_vaddr` meets its contract. The answer and the memory go by what the test gave. Assumes nothing.
use mathlib.Core.Path.{refl, sym}
use Rattle.rules.specs.Call.{add_vaddr}
use Rattle.rules.specs.Calls.{result}
use Rattle.moves.proofs.Whole.{refused, done}
use Rattle.adding.proofs.Laws.{add-rights}
use Rattle.adding.proofs.adding.add_vaddr.Goals as goal

pub returns-in_err-add_refusal : goal.returns-in_err-add_refusal
returns-in_err-add_refusal c =
    let s = c.args in
    refused s.b.bits s.m.now (add_vaddr s.p s.c s.t s.r) c.from_residual.result _ c.from_residual.ensures.1 c.in_err-add_refusal.ensures

pub add_effect-requires : goal.add_effect-requires
add_effect-requires c = let s = c.args in record { rights = add-rights s.b.bits s.m.now s.p s.c s.t s.r (sym c.in_ok-add_refusal.ensures) }

pub returns : goal.returns
unfolding result
returns c =
    let s = c.args in
    done s.b.bits s.m.now (add_vaddr s.p s.c s.t s.r) c.in_ok-add_refusal.ensures 0 refl c.add_effect.ensures
