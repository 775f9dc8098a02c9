-- Tests that the code makes of numbers joined or compared as bits. Assumes nothing.
use mathlib.Core.Path.{◌≡◌, sym, ap, ◌∙◌}
use Prim.Native.Nat.{ℕ}
use native.Mathlib.Omega.{arith}
use native.Mathlib.Decide.{ℕ_discrete}
use lib.Bits.{bit_xor, and_le_l, and_le_r, xor_add_and, xor_self}
use lib.Dec.{eqb}
use borrow.Author.Tests.{eq-eqb, ne_eqb}
pub use Rattle.common.proofs.Bits.{or_test}

pub xor_test : (a b : ℕ) → eqb (bit_xor a b) 0 ≡ eqb a b
xor_test a b = elim (ℕ_discrete a b) [
  | yes e ↦ eq-eqb (bit_xor a b) 0 (ap (bit_xor a) (sym e) ∙ xor_self a) ∙ sym (eq-eqb a b e)
  | no n ↦ ne_eqb (bit_xor a b) 0 (λ z. n (omega (arith, z, xor_add_and a b, and_le_l a b, and_le_r a b))) ∙ sym (ne_eqb a b n)
]
