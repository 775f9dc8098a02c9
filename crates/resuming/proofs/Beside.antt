-- The words beside resume's answer: n is the number of the refusal that the first part of the call found. Assumes nothing.
use mathlib.Core.Path.{◌≡◌, refl, sym, ap, ◌∙◌}
use mathlib.Core.Logic.{◌≢◌}
use mathlib.Core.List.{List}
use mathlib.Core.Option.{some}
use Prim.Native.Nat.{ℕ, zero, suc}
use Rattle.rules.specs.Row.{pass}
use Rattle.rules.specs.Call.{resume, resumption}
use Rattle.rules.specs.Refusals.{refusal}
use Rattle.rules.specs.Calls.{no_context, resumed, context}

-- zeros beside a refusal
zeros : (b : ℕ) (m : List ℕ) (t s n : ℕ) → n ≢ 0 → no_context ≡ resumed b m n (some (t, s))
unfolding resumed pass
zeros b m t s zero h = absurd (h refl)
zeros b m t s (suc n) h = refl

module _ (b : ℕ) (m : List ℕ) (t s n : ℕ) (e : n ≡ refusal b m (resume t s)) where
  pub context-refused : n ≢ 0 → no_context ≡ context b m (resume t s)
  unfolding context resumption
  context-refused h = zeros b m t s n h ∙ ap (λ (k : ℕ). resumed b m k (some (t, s))) e

  pub context-done : {ws : List ℕ} → n ≡ 0 → ws ≡ resumed b m 0 (some (t, s)) → ws ≡ context b m (resume t s)
  unfolding context resumption
  context-done h q = q ∙ ap (λ (k : ℕ). resumed b m k (some (t, s))) (sym h ∙ e)
