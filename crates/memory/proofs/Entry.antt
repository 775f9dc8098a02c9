-- The parts of a page table word. Assumes nothing.
use mathlib.Core.Path.{◌≡◌, refl, sym, ap, ap₂, ◌∙◌, subst}
use mathlib.Core.Bool.{Bool, true, false, ◌&&◌, false≢true}
use Prim.Native.Nat.{ℕ, zero, suc, ◌+◌, ◌-◌, ◌*◌, ◌/◌, ◌%◌, ◌^◌, ◌≤◌, ◌<◌}
use native.Mathlib.Nat.{mul_comm, mul_left_comm}
use native.Mathlib.Omega.{arith}
use lib.Arith.{digits_div}
use lib.Bits.{bit_and}
use lib.Dec.{leb, eqb}
use borrow.Author.Tests.{leb-false, lt-leb}
use lib.Pow.{pow_pos, pow-add}
use Rattle.memory.specs.Geometry.{page_bytes, page_of}
use Rattle.memory.specs.Entry.{entry, accessible, rights, write_right, execute_right, least_both, holds, write_and_execute}

module _ (b p a r : ℕ) (wide : 3 ≤ b) (ha : a < 2) (hr : r < 8) where
  eight : (c : ℕ) → 2 ^ (c + 3) ≡ 8 * 2 ^ c
  eight c = pow-add 2 c 3 ∙ mul_comm (2 ^ c) 8

  bytes_32 : (c : ℕ) × (page_bytes b ≡ 32 * 2 ^ c)
  bytes_32 = (b - 3, ap (λ (x : ℕ). 4 * 2 ^ x) back ∙ ap (λ (x : ℕ). 4 * x) (eight (b - 3)) ∙ assoc)
    where
      back : b ≡ b - 3 + 3
      back = omega arith

      assoc : 4 * (8 * 2 ^ (b - 3)) ≡ 32 * 2 ^ (b - 3)
      assoc = omega arith

  -- the word is 32 times something, and its flags
  flags : entry b p a r ≡ 32 * (p * 2 ^ bytes_32.0) + (1 + 2 * a + 4 * r)
  flags = omega (arith, ap (λ (x : ℕ). p * x) bytes_32.1, mul_left_comm p 32 (2 ^ bytes_32.0))

  pub entry-page : page_of b (entry b p a r) ≡ p
  entry-page = subst (λ (x : ℕ). x / page_bytes b ≡ p) shape (digits_div p (omega (arith, bytes_32.1, pow_pos bytes_32.0)))
    where
      shape : p * page_bytes b + (1 + 2 * a + 4 * r) ≡ entry b p a r
      shape = omega arith

  pub entry-accessible : accessible (entry b p a r) ≡ a
  entry-accessible = ap (λ (x : ℕ). x / 2 % 2) flags ∙ omega arith

  pub entry-rights : rights (entry b p a r) ≡ r
  entry-rights = ap (λ (x : ℕ). x / 4 % 8) flags ∙ omega arith

-- ---- of the rights 0 to 7 just 6 and 7 hold write and execute

both-from_6 : (r : ℕ) → r < 8 → (eqb (bit_and write_right r) write_right && eqb (bit_and execute_right r) execute_right) ≡ leb least_both r
both-from_6 zero h = refl
both-from_6 (suc zero) h = refl
both-from_6 (suc (suc zero)) h = refl
both-from_6 (suc (suc (suc zero))) h = refl
both-from_6 (suc (suc (suc (suc zero)))) h = refl
both-from_6 (suc (suc (suc (suc (suc zero))))) h = refl
both-from_6 (suc (suc (suc (suc (suc (suc zero)))))) h = refl
both-from_6 (suc (suc (suc (suc (suc (suc (suc zero))))))) h = refl
both-from_6 (suc (suc (suc (suc (suc (suc (suc (suc r)))))))) h = absurd (omega arith)

pub both-rights : (w : ℕ) → write_and_execute w ≡ leb least_both (rights w)
both-rights w = both-from_6 (rights w) (omega arith)

pub below_both : (w : ℕ) → rights w < least_both → ¬ ((holds write_right w ≡ true) × (holds execute_right w ≡ true))
below_both w h (x, y) = false≢true (sym (both-rights w ∙ lt-leb least_both (rights w) h) ∙ ap₂ ◌&&◌ x y)

pub not-both-below : (w : ℕ) → ¬ ((holds write_right w ≡ true) × (holds execute_right w ≡ true)) → rights w < least_both
not-both-below w n = leb-false least_both (rights w) (sym (both-rights w) ∙ go (holds write_right w) refl (holds execute_right w) refl)
  where
    go : (x : Bool) → holds write_right w ≡ x → (y : Bool) → holds execute_right w ≡ y → x && y ≡ false
    go true p true q = absurd (n (p, q))
    go true p false q = refl
    go false p y q = refl
