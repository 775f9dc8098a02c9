-- The flags of two page table words, compared as bits. Assumes nothing.
use mathlib.Core.Path.{◌≡◌, refl, sym, ap, ap₂, ◌∙◌}
use mathlib.Core.Bool.{◌&&◌}
use Prim.Native.Nat.{ℕ, zero, suc, ◌+◌, ◌*◌, ◌/◌, ◌%◌, ◌<◌, min}
use native.Mathlib.Nat.{zero-min, div-add-mod'}
use native.Mathlib.Omega.{arith}
use native.Mathlib.Decide.{ℕ_discrete}
use lib.Arith.{bin_ind}
use lib.Bits.{bit_and, bit_or, bit_xor, and_step, and_shr, xor_shr, and_mod, xor_mod, and_high}
use lib.Dec.{eqb}
use borrow.Author.Tests.{eq-eqb, ne_eqb}
use Rattle.memory.specs.Entry.{accessible, rights, holds}
use Rattle.pages.proofs.Bits.{or_test, xor_test}

-- ---- bits that one number has and another lacks

digit : (x y : ℕ) → x < 2 → y < 2 → min x (bit_xor x y) + min x y ≡ x
digit zero y h l = omega (arith, zero-min (bit_xor zero y), zero-min y)
digit (suc zero) zero h l = refl
digit (suc zero) (suc zero) h l = refl
digit (suc zero) (suc (suc y)) h l = absurd (omega arith)
digit (suc (suc x)) y h l = absurd (omega arith)

and_xor : (a b : ℕ) → bit_and a (bit_xor a b) + bit_and a b ≡ a
and_xor a =
    bin_ind (λ (n : ℕ). (b : ℕ) → bit_and n (bit_xor n b) + bit_and n b ≡ n) (λ b. refl)
    (λ n ih b.
    let e : bit_and n (bit_xor n b) ≡ bit_and (n / 2) (bit_xor (n / 2) (b / 2)) * 2 + min (n % 2) (bit_xor (n % 2) (b % 2)) =
    and_step n (bit_xor n b) ∙ ap₂ (λ (x y : ℕ). bit_and (n / 2) x * 2 + min (n % 2) y) (xor_shr n b 1) (xor_mod n b 1) in
    omega (arith, e, and_step n b, ih (b / 2), digit (n % 2) (b % 2) (omega arith) (omega arith), div-add-mod' n 2))
    a

doubled : (x : ℕ) → eqb (x * 2) 0 ≡ eqb x 0
doubled x = elim (ℕ_discrete x 0) [
  | yes e ↦ eq-eqb (x * 2) 0 (omega (arith, e)) ∙ sym (eq-eqb x 0 e)
  | no n ↦ ne_eqb (x * 2) 0 (λ e. n (omega (arith, e))) ∙ sym (ne_eqb x 0 n)
]

-- ---- the flags

module _ (w u : ℕ) where
  accessible-bit : bit_and (bit_xor w u) 2 ≡ bit_xor (accessible w) (accessible u) * 2
  accessible-bit = and_high (bit_xor w u) 1 1 ∙ ap (λ (x : ℕ). x % 2 * 2) (xor_shr w u 1) ∙ ap (λ (x : ℕ). x * 2) (xor_mod (w / 2) (u / 2) 1)

  rights-bits : bit_and (bit_and w (bit_xor w u)) 28 ≡ bit_and (rights w) (bit_xor (rights w) (rights u)) * 4
  rights-bits =
      and_high (bit_and w (bit_xor w u)) 3 2 ∙ ap (λ (x : ℕ). x % 8 * 4) (and_shr w (bit_xor w u) 2 ∙ ap (bit_and (w / 4)) (xor_shr w u 2))
      ∙ ap (λ (x : ℕ). x * 4) (and_mod (w / 4) (bit_xor (w / 4) (u / 4)) 3 ∙ ap (bit_and (w / 4 % 8)) (xor_mod (w / 4) (u / 4) 3))

  same-accessible : eqb (bit_and (bit_xor w u) 2) 0 ≡ eqb (accessible w) (accessible u)
  same-accessible = ap (λ (x : ℕ). eqb x 0) accessible-bit ∙ doubled (bit_xor (accessible w) (accessible u)) ∙ xor_test (accessible w) (accessible u)

  rights-held : eqb (bit_and (bit_and w (bit_xor w u)) 28) 0 ≡ holds (rights w) u
  rights-held = elim (ℕ_discrete (bit_and (rights w) (rights u)) (rights w)) [
    | yes e ↦ eq-eqb (bit_and (bit_and w (bit_xor w u)) 28) 0 (omega (arith, rights-bits, and_xor (rights w) (rights u), e))
        ∙ sym (eq-eqb (bit_and (rights w) (rights u)) (rights w) e)
    | no n ↦ ne_eqb (bit_and (bit_and w (bit_xor w u)) 28) 0 (λ z. n (omega (arith, z, rights-bits, and_xor (rights w) (rights u))))
        ∙ sym (ne_eqb (bit_and (rights w) (rights u)) (rights w) n)
  ]

  pub none-added : eqb (bit_or (bit_and (bit_xor w u) 2) (bit_and (bit_and w (bit_xor w u)) 28)) 0 ≡ (eqb (accessible w) (accessible u) && holds (rights w) u)
  none-added = or_test (bit_and (bit_xor w u) 2) (bit_and (bit_and w (bit_xor w u)) 28) ∙ ap₂ ◌&&◌ same-accessible rights-held
