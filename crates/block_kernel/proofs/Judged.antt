-- The verdict is 0 exactly of sound memory, and 1 of any other. Assumes nothing.
use mathlib.Core.Path.{◌≡◌, refl}
use mathlib.Core.Bool.{Bool, true, false, not}
use mathlib.Core.List.{List, [], ◌∷◌}
use mathlib.Core.Logic.{◌↔◌}
use Prim.Native.Nat.{ℕ}
use native.Mathlib.Omega.{arith}
use Rattle.common.specs.Row
use Rattle.common.specs.Row.{◌when◌}
use Rattle.block_memory.specs.Sound.{Sound}
use Rattle.block_soundness.specs.Test.{sound_test}
use Rattle.block_soundness.proofs.Whole.{sound?}
use Rattle.block_rules.specs.Refusal.{DAMAGED}
use Rattle.block_rules.specs.Row.{first}
use Rattle.block_kernel.specs.Verdict.{verdict}

module _ (m : List ℕ) where
  pub verdict-sound : sound_test m ≡ true → verdict m ≡ 0
  unfolding Row.first
  verdict-sound e = rw e

  pub verdict-damaged : sound_test m ≡ false → verdict m ≡ 1
  unfolding Row.first
  verdict-damaged e = rw e

  test-passed : (t : Bool) → first (DAMAGED when not t ∷ []) ≡ 0 → t ≡ true
  unfolding Row.first
  test-passed true e = refl
  test-passed false e = absurd (omega arith)

  pub verdict? : (verdict m ≡ 0) ↔ Sound m
  verdict? = ((λ v. (sound? m).0 (test-passed (sound_test m) v)), (λ s. verdict-sound ((sound? m).1 s)))
