-- The verdict is 0 exactly of memory that is sound by an edition's width, and 1 of any other. Assumes nothing.
use mathlib.Core.Path.{◌≡◌, refl, sym, subst}
use mathlib.Core.Bool.{Bool, true, false, not}
use mathlib.Core.List.{List, [], ◌∷◌}
use mathlib.Core.Logic.{◌↔◌}
use Prim.Native.Nat.{ℕ, ◌<◌}
use native.Mathlib.Omega.{arith}
use lib.ListN.{length}
use Rattle.common.specs.Row
use Rattle.memory.specs.Geometry.{widths, width_of}
use Rattle.memory.specs.Edition.{edition, width}
use Rattle.memory.specs.Sound.{Sound}
use Rattle.memory.proofs.Editions.{edition-known}
use Rattle.soundness.specs.Test.{sound_test}
use Rattle.rules.specs.Refusal.{DAMAGED}
use Rattle.rules.specs.Row.{◌when◌, first}
use Rattle.claim.proofs.OneEdition.{one-edition, sound_own?}
use Rattle.kernel.specs.Verdict.{verdict}

module _ (m : List ℕ) where
  pub verdict-sound : sound_test (width m) m ≡ true → verdict m ≡ 0
  unfolding Row.first
  verdict-sound e = rw e

  pub verdict-damaged : sound_test (width m) m ≡ false → verdict m ≡ 1
  unfolding Row.first
  verdict-damaged e = rw e

  test-passed : (t : Bool) → first (DAMAGED when not t ∷ []) ≡ 0 → t ≡ true
  unfolding Row.first
  test-passed true e = refl
  test-passed false e = absurd (omega arith)

  pub verdict? : (verdict m ≡ 0) ↔ ((e : ℕ) × (e < length widths) × Sound (width_of e) m)
  verdict? = (
    (λ v. (edition m, edition-known m, (sound_own? m).0 (test-passed (sound_test (width m) m) v))),
    (λ (e, l, s). verdict-sound ((sound_own? m).1 (subst (λ (x : ℕ). Sound (width_of x) m) (sym (one-edition e m l s)) s))),
  )
