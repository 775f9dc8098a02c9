-- Sums over lists of numbers, and how many numbers lie between two. Assumes nothing.
use mathlib.Core.Path.{◌≡◌, refl, sym, ap}
use mathlib.Core.List.{List, [], ◌∷◌}
use mathlib.Core.Logic.{◌≢◌}
use mathlib.Core.Bool.{cond, ◌&&◌}
use Prim.Native.Nat.{ℕ, zero, suc, min, max, ◌+◌, ◌-◌, ◌≤◌, ◌<◌}
use native.Mathlib.Omega.{arith}
use native.Mathlib.Decide.{ℕ_discrete, dec_le, dec_lt}
use lib.Dec.{leb, ltb}
use borrow.Author.Tests.{le-leb, lt-leb, lt-ltb, le-ltb}
use Rattle.walk.specs.Lists.{count, hit_same, sum_of, sum-add, taken}
use Rattle.walk.specs.Finite.{from}

pub sum-zero : (f : ℕ → ℕ) (l : List ℕ) → ((x : ℕ) → 0 < count x l → f x ≡ 0) → sum_of f l ≡ 0
unfolding sum_of count
sum-zero f [] h = refl
sum-zero f (x ∷ l) h = omega (arith, h x (omega (arith, hit_same x)), sum-zero f l (λ y c. h y (omega arith)))

pub sum_in : (f g : ℕ → ℕ) (l : List ℕ) → ((x : ℕ) → 0 < count x l → f x ≡ g x) → sum_of f l ≡ sum_of g l
unfolding sum_of count
sum_in f g [] h = refl
sum_in f g (x ∷ l) h = omega (arith, h x (omega (arith, hit_same x)), sum_in f g l (λ y c. h y (omega arith)))

-- 1 at one element that is there once, 0 elsewhere
pub sum_one : (f : ℕ → ℕ) (l : List ℕ) (d : ℕ) → count d l ≡ 1 → f d ≡ 1 → ((x : ℕ) → 0 < count x l → x ≢ d → f x ≡ 0) → sum_of f l ≡ 1
sum_one f l d c e h =
    let (k, a, b) = taken f d l (omega arith) in
    omega (
      arith,
      b,
      e,
      sum-zero f k (λ x i. elim (ℕ_discrete x d) [
        | yes q ↦ absurd (omega (arith, a d, hit_same d, ap (λ (y : ℕ). count y k) q))
        | no q ↦ h x (omega (arith, a x)) q
      ]),
    )

pub sum_swap : (f : ℕ → ℕ → ℕ) (xs ys : List ℕ) → sum_of (λ x. sum_of (λ y. f x y) ys) xs ≡ sum_of (λ y. sum_of (λ x. f x y) xs) ys
unfolding sum_of
sum_swap f [] ys = sym (sum-zero (λ y. 0) ys (λ x h. refl))
sum_swap f (x ∷ xs) ys = omega (arith, sum_swap f xs ys, sum-add (λ y. f x y) (λ y. sum_of (λ z. f z y) xs) ys)

pub sum_ones : (n i : ℕ) → sum_of (λ x. 1) (from n i) ≡ n
unfolding sum_of from
sum_ones zero i = refl
sum_ones (suc n) i = omega (arith, sum_ones n (suc i))

-- ---- 1 between a and b, 0 elsewhere

unfoldable pub between : ℕ → ℕ → ℕ → ℕ
between a b x = cond (leb a x && ltb x b) 1 0

pub between_in : (a b x : ℕ) → a ≤ x → x < b → between a b x ≡ 1
unfolding between
between_in a b x h k = rw (le-leb a x h, lt-ltb x b k)

pub between-out : (a b x : ℕ) → (a ≤ x → x < b → ⊥) → between a b x ≡ 0
unfolding between
between-out a b x h = elim (dec_le a x) [
  | yes p ↦ elim (dec_lt x b) [
    | yes q ↦ absurd (h p q)
    | no q ↦ rw (le-leb a x p, le-ltb x b (omega arith))
  ]
  | no p ↦ rw (lt-leb a x (omega arith))
]

run-between : (n i a b : ℕ) → sum_of (between a b) (from n i) ≡ min b (i + n) - max a i
unfolding sum_of from
run-between zero i a b = omega arith
run-between (suc n) i a b = elim (dec_le a i) [
  | yes p ↦ elim (dec_lt i b) [
    | yes q ↦ omega (arith, between_in a b i p q, run-between n (suc i) a b)
    | no q ↦ omega (arith, between-out a b i (λ h k. q k), run-between n (suc i) a b)
  ]
  | no p ↦ omega (arith, between-out a b i (λ h k. p h), run-between n (suc i) a b)
]

pub all-between : (n i a b : ℕ) → i ≤ a → b ≤ i + n → sum_of (between a b) (from n i) ≡ b - a
all-between n i a b h k = omega (arith, run-between n i a b)
