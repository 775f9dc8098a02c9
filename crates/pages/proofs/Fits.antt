-- Numbers that fit a word: how many threes there are, and the address of a page. Assumes nothing.
use Prim.Native.Nat.{ℕ, ◌+◌, ◌≤◌, ◌<◌}
use native.Mathlib.Nat.{div-lt_iff_lt-mul, mul-le-mul}
use native.Mathlib.Omega.{arith}
use Rattle.memory.specs.Geometry.{page_words, page_bytes, address, threes_for}
use Rattle.memory.proofs.Widths.{words-least, words-most}

pub threes-lt : (b n : ℕ) → 6 ≤ b → n < 4294967296 → threes_for b n < 67108864
threes-lt b n h l = (div-lt_iff_lt-mul {k = page_words b + 3} (omega arith)).1 (omega (arith, words-least b h))

-- the address of a page that is no more than the most
pub address-small : (b p : ℕ) → b ≤ 10 → p ≤ 4096 → address b p ≤ 16777216
address-small b p h l = mul-le-mul {m₁ = page_bytes b} {n₂ = 4096} {m₂ = 4096} l (omega (arith, words-most b h))
