-- `resuming::resuming::resume_refusal` meets its contract: at the exit the row stops in its beginning. Assumes nothing.
use mathlib.Core.Path.{refl, sym, ◌∙◌}
use mathlib.Core.List.{List, [], ◌∷◌}
use Prim.Native.Nat.{ℕ}
use Rattle.answers.proofs.Numbers.{stopped}
use Rattle.memory.specs.Contexts.{no_slots}
use Rattle.rules.specs.Refusal.{SLOT-PAGE, SLOT, EMPTY-SLOT}
use Rattle.rules.specs.Row.{Check, ◌when◌}
use Rattle.rules.specs.Refusals.{refusals}
use Rattle.rules.specs.Conditions.{target, toward, bad_slot, empty_slot}
use Rattle.rules.proofs.Rows.{at, first-is, goes_on}
use Rattle.resuming.proofs.resuming.resume_refusal.Goals as goal

-- behind the row's beginning
abbrev tail : ℕ → List ℕ → ℕ → ℕ → List Check
tail b m t s = SLOT when bad_slot t s ∷ SLOT-PAGE when no_slots b m (target b m t) ∷ EMPTY-SLOT when empty_slot b m t s ∷ []

pub returns-in_err-toward_refusal : goal.returns-in_err-toward_refusal
unfolding refusals
returns-in_err-toward_refusal c =
    let s = c.args in
    stopped (toward s.b.bits s.m.now s.t) _ c.from_residual.result _ c.from_residual.ensures.1 c.in_err-toward_refusal.ensures

pub returns-then-bad_slot : goal.returns-then-bad_slot
unfolding refusals
returns-then-bad_slot c =
    let s = c.args in
    let b = s.b.bits in
    let m = s.m.now in
    let behind = goes_on (toward b m s.t) (tail b m s.t s.s) _ c.in_ok-toward_refusal.ensures refl in
    sym (first-is {cs = tail b m s.t s.s} (at (sym c.bad_slot.ensures ∙ c.if-bad_slot.true))) ∙ behind
