-- The numbers of virtual pages. Assumes nothing.
use mathlib.Core.Path.{ap, subst}
use Prim.Native.Nat.{ℕ, ◌+◌, ◌*◌, ◌≤◌, ◌<◌}
use native.Mathlib.Omega.{arith}
use native.Mathlib.Nat.{suc-mul, le_trans, mul-le-mul, mul-lt-mul_of_pos_right}
use native.Mathlib.Numerals.{add-one}
use lib.Pow.{pow_mono}
use Rattle.memory.specs.Geometry.{page_words, address}
use Rattle.memory.proofs.Geometry.{bytes_pos, address_end-is}
use Rattle.memory.proofs.Widths.{words-most}
use Rattle.tally.specs.Rows.{virtual_pages}

module _ (b : ℕ) (h : b ≤ 10) where
  pub most-pages : virtual_pages b ≤ 1048576
  most-pages = mul-le-mul {n₂ = 1024} {m₂ = 1024} (words-most b h) (words-most b h)

  pub address-fits : (v : ℕ) → v < virtual_pages b → address b v < 4294967296
  address-fits v l =
      le_trans (mul-lt-mul_of_pos_right l (bytes_pos b))
      (subst (λ (x : ℕ). x ≤ 4294967296) (address_end-is b) (pow_mono {i = 3 * b + 2} {j = 32} (omega arith)))

-- the pages of row i
pub row_in : (b i : ℕ) → i < page_words b → i * page_words b + page_words b ≤ virtual_pages b
row_in b i h =
    let e : (i + 1) * page_words b ≤ page_words b * page_words b = mul-le-mul (omega arith) (omega arith) in
    omega (arith, suc-mul i (page_words b), ap (λ (x : ℕ). x * page_words b) (add-one i))
