-- Format passes on memory of a permitted length and leaves words that the length alone decides; else it leaves every word. Assumes nothing.
use mathlib.Core.Path.{◌≡◌, refl, ap, ap₂}
use mathlib.Core.List.{List, [], ◌∷◌}
use Prim.Native.Nat.{ℕ}
use Rattle.memory.specs.Edition.{width}
use Rattle.memory.specs.Geometry.{width_of}
use Rattle.memory.specs.Format.{format}
use Rattle.rules.specs.Row.{Answer, ok}
use Rattle.rules.specs.Call.{Call, format_all, resumption}
use Rattle.rules.specs.Conditions.{pages_in}
use Rattle.rules.specs.Calls as C
use Rattle.rules.specs.Calls.{result}
use Rattle.rules.specs.Editions.{answer, context, run, answers, contexts}
use Rattle.rules.specs.Permitted.{Fits}
use Rattle.rules.proofs.Rows.{answer_ok, answer-no}
use Rattle.rules.proofs.Size.{passes, refused}
use Rattle.rules.proofs.steps.Editions.{format-leaves, format-refused}
use Rattle.claim.specs.Claim.{Refused}

module _ (e : ℕ) (m : List ℕ) where
  module _ (f : Fits e m) where
    said : answer m (format_all e) ≡ ok 0
    unfolding answer result
    said = answer_ok (width m) m (format_all e) (passes m e (width m) f)

    beside : context m (format_all e) ≡ []
    unfolding context C.context C.resumed resumption
    beside = refl

    module _ (cs : List Call) where
      pub run-formatted : run m (format_all e ∷ cs) ≡ run (format (width_of e) (pages_in (width_of e) m)) cs
      unfolding run
      run-formatted = ap (λ (x : List ℕ). run x cs) (format-leaves m e f)

      pub answers-formatted : answers m (format_all e ∷ cs) ≡ ok 0 ∷ answers (format (width_of e) (pages_in (width_of e) m)) cs
      unfolding answers
      answers-formatted = ap₂ (λ (x : Answer) (y : List Answer). x ∷ y) said (ap (λ (x : List ℕ). answers x cs) (format-leaves m e f))

      pub contexts-formatted : contexts m (format_all e ∷ cs) ≡ [] ∷ contexts (format (width_of e) (pages_in (width_of e) m)) cs
      unfolding contexts
      contexts-formatted = ap₂ (λ (x : List ℕ) (y : List (List ℕ)). x ∷ y) beside (ap (λ (x : List ℕ). contexts x cs) (format-leaves m e f))

  pub format-stopped : ¬ Fits e m → Refused e m
  unfolding answer
  format-stopped n = record { words = format-refused m e n; answered = answer-no (width m) m (format_all e) 1 (refused m e (width m) n) }
