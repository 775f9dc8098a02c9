-- The size of a memory, test by test, and the bounds that follow from it. Assumes nothing.
use mathlib.Core.Path.{◌≡◌, ap}
use mathlib.Core.Logic.{◌≢◌}
use mathlib.Core.Bool.{Bool, true, false, not, ◌||◌}
use mathlib.Core.List.{List}
use Prim.Native.Nat.{ℕ, ◌+◌, ◌-◌, ◌*◌, ◌/◌, ◌%◌, ◌^◌, ◌≤◌, ◌<◌}
use native.Mathlib.Nat.{div-le_self, div-add-mod', mul-le-mul, mul-le-mul_right, suc-mul}
use native.Mathlib.Numerals.{add-one}
use native.Mathlib.Omega.{arith}
use borrow.Author.Tests.{eq-eqb, ne_eqb, lt-ltb, le-ltb, eqb-true, ltb-false}
use lib.Dec.{ltb}
use lib.ListN.{length}
use Rattle.memory.specs.Geometry.{page_words, address, most_pages, threes_for}
use Rattle.memory.specs.Words.{index}
use Rattle.memory.proofs.Geometry.{threes_for-least}
use Rattle.memory.proofs.Widths.{words-least, words-most}
use Rattle.rules.specs.Conditions.{pages_in, wrong_size}

-- ---- "length isn't 64N with N 16 to 256"

module _ (b : ℕ) (m : List ℕ) where
  pub size-rest : length m % page_words b ≢ 0 → wrong_size b m ≡ true
  size-rest h = simp (ne_eqb (length m) (pages_in b m * page_words b) (λ q. h (omega (arith, div-add-mod' (length m) (page_words b)))))

  whole : length m % page_words b ≡ 0 → length m ≡ pages_in b m * page_words b
  whole h = omega (arith, div-add-mod' (length m) (page_words b))

  pub size_few : length m % page_words b ≡ 0 → pages_in b m < 16 → wrong_size b m ≡ true
  size_few h k = simp (eq-eqb _ _ (whole h), lt-ltb _ _ k)

  pub size-most : length m % page_words b ≡ 0 → 16 ≤ pages_in b m → wrong_size b m ≡ ltb (most_pages b) (pages_in b m)
  size-most h k = simp (eq-eqb _ _ (whole h), le-ltb _ _ k)

  parts : (s t u : Bool) → (not s || t || u) ≡ false → (s ≡ true) × (t ≡ false) × (u ≡ false)
  parts true false false e = (cc, cc, cc)
  parts true false true e = (cc, cc, cc)
  parts true true u e = (cc, cc, cc)
  parts false t u e = (cc, cc, cc)

  pub size-right : wrong_size b m ≡ false → (length m ≡ pages_in b m * page_words b) × (16 ≤ pages_in b m) × (pages_in b m ≤ most_pages b)
  size-right e =
      let (s, t, u) = parts _ _ _ e in
      (eqb-true _ _ s, ltb-false _ _ t, ltb-false _ _ u)

  pub size_bounds : b ≤ 10 → wrong_size b m ≡ false → (16 ≤ pages_in b m) × (pages_in b m ≤ 4096)
  size_bounds h e = let (k, l, u) = size-right e in (l, omega (arith, words-most b h))

-- a page that is not far up has an address
pub near_address : (b k : ℕ) → b ≤ 10 → k ≤ 65536 → address b k ≤ 268435456
near_address b k h l =
    let e : 4 * 2 ^ b ≤ 4096 = omega (arith, words-most b h) in
    mul-le-mul l e

pub near_product : (q w : ℕ) → q ≤ 1364 → w ≤ 1024 → q * w ≤ 1396736
near_product q w h k = mul-le-mul h k

-- so many pages have few threes
pub few_threes : (b n : ℕ) → b ≤ 10 → n ≤ 4096 → threes_for b n ≤ 6144
few_threes b n h k = omega (arith, words-most b h, div-le_self (n - 5 + (page_words b + 2)) (page_words b + 3))

-- the first root page lies in the memory
pub first-inside : (b n : ℕ) → 6 ≤ b → 16 ≤ n → 6 + 3 * threes_for b n ≤ n
first-inside b n h k =
    let t = (n - 6) / 3 in
    let l : 67 ≤ 2 ^ b + 3 = omega (arith, words-least b h) in
    omega (arith, threes_for-least b n t (omega (arith, mul-le-mul_right t l)))

-- a page's part lies in the memory, and has a page's words
pub page-inside : (b p n : ℕ) → p < n → index b (p + 1) 0 ≤ n * page_words b
page-inside b p n h = omega (arith, mul-le-mul_right (page_words b) h, ap (λ (x : ℕ). x * page_words b) (add-one p))

pub page-long : (b p : ℕ) → index b (p + 1) 0 ≡ index b p 0 + page_words b
page-long b p = omega (arith, suc-mul p (page_words b), ap (λ (x : ℕ). x * page_words b) (add-one p))
