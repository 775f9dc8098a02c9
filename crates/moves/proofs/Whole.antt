-- A whole call from its two parts: the first part tested whether the call is refused, and the second made the effect. Assumes nothing.
use mathlib.Core.Path.{◌≡◌, sym, ap, ap₂, ◌∙◌}
use mathlib.Core.List.{List}
use Prim.Native.Nat.{ℕ}
use Rattle.std.specs.Prelude.{Result, IsErrAnd}
use Rattle.std.proofs.lemmas.Result.{err_from_is_err_and}
use Rattle.common.proofs.Rows.{kept, reply-no}
use Rattle.rules.specs.Row.{ok, reply, pass}
use Rattle.rules.specs.Call.{Call}
use Rattle.rules.specs.Refusals.{refusal}
use Rattle.rules.specs.Effects.{effect}
use Rattle.rules.specs.Calls.{result, answer, after}
use Rattle.answers.specs.declared.refusals.Refusal.{Refusal}
use Rattle.answers.specs.Said.{number_of, said}
use Rattle.answers.proofs.Numbers.{number-some}

module _ (b : ℕ) (m : List ℕ) (c : Call) where
  -- the test gave r; y is what is returned
  pub refused : (y : Result ℕ Refusal) (r : Refusal) → IsErrAnd y (λ z. z ≡ r) → number_of r ≡ refusal b m c → (said y ≡ answer b m c) × (m ≡ after b m c)
  unfolding answer after
  refused y r given e =
      let p = err_from_is_err_and y given in
      let n = number_of r in
      let some = number-some r in
      (rw (p.1, p.2) (reply-no (refusal b m c) n (result b m c) (sym e) some), kept n (effect b m c) m some ∙ ap (λ (k : ℕ). pass k (effect b m c) m) e)

  -- it passed; x is the word, and m' what is left
  pub done : 0 ≡ refusal b m c → {m' : List ℕ} (x : ℕ) → x ≡ result b m c → m' ≡ effect b m c → (ok x ≡ answer b m c) × (m' ≡ after b m c)
  unfolding answer reply after pass
  done e x w f = (ap₂ reply e w, f ∙ ap (λ (k : ℕ). pass k (effect b m c) m) e)
