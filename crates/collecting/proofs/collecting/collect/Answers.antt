-- `collecting::collecting::collect` meets its contract. The answer and the memory go by what the test gave. Assumes nothing.
use mathlib.Core.Path.{sym}
use Rattle.rules.specs.Call.{collect}
use Rattle.moves.proofs.Whole.{refused, done}
use Rattle.threes.proofs.StandLaws.{collect-stands}
use Rattle.collecting.proofs.collecting.collect.Goals as goal

pub returns-in_err-collect_refusal : goal.returns-in_err-collect_refusal
returns-in_err-collect_refusal c =
    let s = c.args in
    refused s.b.bits s.m.now (collect s.c s.t) c.from_residual.result _ c.from_residual.ensures.1 c.in_err-collect_refusal.ensures

pub collect_effect-requires : goal.collect_effect-requires
collect_effect-requires c =
    let s = c.args in
    record { stands = collect-stands s.b.bits s.m.now s.c s.t s.b.known.0 (sym c.in_ok-collect_refusal.ensures) }

pub returns : goal.returns
returns c =
    let s = c.args in
    let x = c.collect_effect in
    done s.b.bits s.m.now (collect s.c s.t) c.in_ok-collect_refusal.ensures x.result x.ensures.0 x.ensures.1
