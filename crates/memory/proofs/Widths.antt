-- What shifts and masks give at an index width of 6 to 10. Assumes nothing.
use mathlib.Core.Path.{◌≡◌, sym, ap, ◌∙◌, subst}
use Prim.Native.Nat.{ℕ, suc, ◌+◌, ◌-◌, ◌*◌, ◌/◌, ◌%◌, ◌^◌, ◌≤◌, ◌<◌}
use native.Mathlib.Nat.{mul_comm, mod-eq_of_lt, le_trans, mul-le-mul_right, suc-mul}
use native.Mathlib.Omega.{arith}
use lib.Pow.{pow-add, pow_mono, high, low, shl_exact, shl_lt, shr_lt}
use Rattle.memory.specs.Geometry.{address_end, address, page_of}

pub bytes-is : (b : ℕ) → 2 ^ (b + 2) ≡ 4 * 2 ^ b
bytes-is b = pow-add 2 b 2 ∙ mul_comm (2 ^ b) 4

module _ (b : ℕ) where
  pub words-least : 6 ≤ b → 64 ≤ 2 ^ b
  words-least h = pow_mono h

  pub words-most : b ≤ 10 → 2 ^ b ≤ 1024
  words-most h = pow_mono h

  pub one_shl : b ≤ 10 → 1 * 2 ^ b % 4294967296 ≡ 2 ^ b
  one_shl h = shl_exact 1 b 32 (omega arith) (omega arith) ∙ omega arith

  pub end_shl : b ≤ 10 → 1 * 2 ^ (3 * b + 2) % 18446744073709551616 ≡ address_end b
  end_shl h = shl_exact 1 (3 * b + 2) 64 (omega arith) (omega arith) ∙ omega arith

  module _ (p : ℕ) where
    pub page_shl : b ≤ 10 → p < 4294967296 → p * 2 ^ b % 18446744073709551616 ≡ p * 2 ^ b
    page_shl h l = shl_exact 32 b 64 l (omega arith)

    pub page-start-lt : b ≤ 10 → p < 4294967296 → p * 2 ^ b < 4398046511104
    page-start-lt h l = le_trans (shl_lt 32 b l) (pow_mono {i = 32 + b} {j = 42} (omega arith))

    pub page_by_shift : p / 2 ^ (b + 2) ≡ page_of b p
    page_by_shift = ap (λ (x : ℕ). p / x) (bytes-is b)

    pub address_by_shift : address b p < 4294967296 → p * 2 ^ (b + 2) % 4294967296 ≡ address b p
    address_by_shift h = ap (λ (x : ℕ). p * x % 4294967296) (bytes-is b) ∙ mod-eq_of_lt h

    -- the page that a word names has an address, and room for its flags
    pub frame-room : 6 ≤ b → b ≤ 10 → p < 4294967296 → address b (page_of b p) + 256 ≤ 4294967296
    frame-room low high l =
        let q : 30 - b + (b + 2) ≡ 32 = omega arith in
        let k : p / 2 ^ (b + 2) < 2 ^ (30 - b) = shr_lt (30 - b) (b + 2) (subst (λ (x : ℕ). p < 2 ^ x) (sym q) l) in
        let n : suc (p / 2 ^ (b + 2)) * 2 ^ (b + 2) ≤ 2 ^ (30 - b) * 2 ^ (b + 2) = mul-le-mul_right (2 ^ (b + 2)) k in
        let t : 2 ^ (30 - b) * 2 ^ (b + 2) ≡ 4294967296 = sym (pow-add 2 (30 - b) (b + 2)) ∙ ap (λ (x : ℕ). 2 ^ x) q in
        let e : 256 ≤ 2 ^ (b + 2) = pow_mono {i = 8} {j = b + 2} (omega arith) in
        let s : p / 2 ^ (b + 2) * 2 ^ (b + 2) ≡ address b (page_of b p) = ap (λ (x : ℕ). p / x * x) (bytes-is b) in
        omega (arith, suc-mul (p / 2 ^ (b + 2)) (2 ^ (b + 2)))
