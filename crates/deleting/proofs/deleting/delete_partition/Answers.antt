-- `deleting::deleting::delete_partition` meets its contract. A child that is not refused lists ten threes at most. Assumes nothing.
use mathlib.Core.Path.{refl, sym}
use Rattle.rules.specs.Calls.{result}
use Rattle.rules.specs.Call.{delete_partition}
use Rattle.rules.specs.Refusals.{refusals}
use Rattle.moves.proofs.OnePage.{one-page}
use Rattle.moves.proofs.Whole.{refused, done}
use Rattle.deleting.proofs.Few.{child-some, child-few}
use Rattle.deleting.proofs.deleting.delete_partition.Goals as goal

pub returns-in_err-child_refusal : goal.returns-in_err-child_refusal
unfolding refusals
returns-in_err-child_refusal c =
    let s = c.args in
    refused s.b.bits s.m.now (delete_partition s.c) c.from_residual.result _ c.from_residual.ensures.1
    (one-page s.b.bits s.m.now s.c _ c.in_err-child_refusal.ensures)

pub delete_effect-requires : goal.delete_effect-requires
unfolding refusals
delete_effect-requires c =
    let s = c.args in
    let e = sym (one-page s.b.bits s.m.now s.c _ c.in_ok-child_refusal.ensures) in
    record { some = child-some s.b.bits s.m.now s.c e; few = child-few s.b.bits s.m.now s.c e }

pub returns : goal.returns
unfolding refusals result
returns c =
    let s = c.args in
    done s.b.bits s.m.now (delete_partition s.c) (one-page s.b.bits s.m.now s.c _ c.in_ok-child_refusal.ensures) 0 refl c.delete_effect.ensures
