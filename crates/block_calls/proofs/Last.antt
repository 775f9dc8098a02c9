-- The number that is left where a call that tells no block is none of the others. Assumes nothing.
use mathlib.Core.Path.{◌≡◌, refl, sym}
use mathlib.Core.Logic.{◌≢◌}
use mathlib.Core.Bool.{Bool, true, false, ◌||◌, false≢true}
use Prim.Native.Nat.{ℕ, ◌≤◌}
use native.Mathlib.Omega.{arith}
use lib.Dec.{eqb}
use borrow.Author.Tests.{eqb-false}
use Rattle.block_sequences.specs.Numbers.{most, tells_block}

module _ (n : ℕ) where
  neither : (s t : Bool) → s || t ≡ false → (s ≡ false) × (t ≡ false)
  neither true t e = absurd (false≢true (sym e))
  neither false t e = (refl, e)

  pub is-leave : n ≤ most → tells_block n ≡ false → 10 ≤ n → n ≢ 12 → n ≡ 13
  is-leave l e p h = let o = neither (eqb n 10) (eqb n 11) e in omega (arith, eqb-false n 10 o.0, eqb-false n 11 o.1)
