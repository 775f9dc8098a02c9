-- The six words beside the answer of a call by its number: those of the block that is told, or zeros. Assumes nothing.
use mathlib.Core.Path.{◌≡◌, refl, ap, ◌∙◌}
use mathlib.Core.Bool.{Bool, false, cond}
use mathlib.Core.List.{List, [], ◌∷◌}
use Prim.Native.Nat.{ℕ, suc}
use native.Mathlib.Omega.{arith}
use lib.ListN.{length, get_or}
use Rattle.common.specs.Words.{overwrite}
use Rattle.block_rules.specs.Calls.{no_block, told}
use Rattle.block_sequences.specs.Numbers.{tells_block}
use Rattle.block_sequences.proofs.Places.{number-places, reply-places}
use Rattle.block_kernel.specs.Called.{called_by}

none_written : (ys : List ℕ) → length ys ≡ 0 → no_block ≡ overwrite no_block 0 ys
none_written [] e = refl
none_written (y ∷ ys) e = absurd (omega (arith, e))

module _ (m : List ℕ) (n : ℕ) (a : List ℕ) where
  abbrev beside : List ℕ
  beside = told m (called_by m n a)

  how_many : (t : Bool) → tells_block n ≡ t → suc (length beside) ≡ cond t 7 1
  how_many t e = reply-places m (called_by m n a) ∙ number-places n (λ j. get_or a j 0) ∙ ap (λ (b : Bool). cond b 7 1) e

  pub words-zero : tells_block n ≡ false → no_block ≡ overwrite no_block 0 beside
  words-zero e = none_written beside (omega (arith, how_many false e))
