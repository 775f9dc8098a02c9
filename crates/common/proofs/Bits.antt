-- A test that the code makes of two numbers joined as bits. Assumes nothing.
use mathlib.Core.Path.{◌≡◌, sym, ap, ◌∙◌}
use mathlib.Core.Bool.{Bool, ◌&&◌}
use Prim.Native.Nat.{ℕ}
use native.Mathlib.Omega.{arith}
use native.Mathlib.Decide.{ℕ_discrete}
use lib.Bits.{bit_or, and_le_r, or_zero_l, or_add_and}
use lib.Dec.{eqb}
use borrow.Author.Tests.{eq-eqb, ne_eqb}

pub or_test : (a b : ℕ) → eqb (bit_or a b) 0 ≡ (eqb a 0 && eqb b 0)
or_test a b = elim (ℕ_discrete a 0) [
  | yes e ↦ ap (λ (x : ℕ). eqb (bit_or x b) 0) e ∙ ap (λ (x : ℕ). eqb x 0) (or_zero_l b) ∙ ap (λ (t : Bool). t && eqb b 0) (sym (eq-eqb a 0 e))
  | no n ↦ ne_eqb (bit_or a b) 0 (λ e. n (omega (arith, e, or_add_and a b, and_le_r a b))) ∙ ap (λ (t : Bool). t && eqb b 0) (sym (ne_eqb a 0 n))
]
