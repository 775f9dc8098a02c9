-- Lists compared by their counts and their lengths. Assumes nothing.
use mathlib.Core.Path.{◌≡◌, refl, sym, ap, ◌∙◌}
use mathlib.Core.List.{List, [], ◌∷◌}
use Prim.Native.Nat.{ℕ, ◌≤◌, ◌<◌}
use native.Mathlib.Omega.{arith}
use native.Mathlib.Decide.{dec_lt}
use lib.ListN.{length, get_or}
use Rattle.walk.specs.Lists.{hit_same, count, at_count, same_at, sum_of, same_sum, taken}
use Rattle.walk.specs.Finite.{image, image-at, length-image}

ones : (l : List ℕ) → sum_of (λ x. 1) l ≡ length l
unfolding sum_of
ones [] = refl
ones (x ∷ l) = omega (arith, ones l)

-- a list that has what l has and is no longer has no more
filled : (l m : List ℕ) → ((x : ℕ) → count x l ≤ count x m) → length m ≤ length l → (x : ℕ) → count x m ≤ count x l
unfolding count
filled [] [] h k x = omega arith
filled [] (y ∷ m) h k x = absurd (omega arith)
filled (y ∷ l) m h k x =
    let (n, a, e) = taken (λ z. 1) y m (omega (arith, h y, hit_same y)) in
    omega (arith, a x, filled l n (λ z. omega (arith, h z, a z)) (omega (arith, e, ones m, ones n)) x)

-- l has no repeat, and all that it has is in m
module _ (l m : List ℕ) (once : (x : ℕ) → count x l ≤ 1) (into : (x : ℕ) → 0 < count x l → 0 < count x m) where
  pub no_more : length m ≤ length l → (x : ℕ) → count x m ≤ count x l
  no_more h = filled l m (λ x. elim (dec_lt 0 (count x l)) [ yes p ↦ omega (arith, once x, into x p) | no n ↦ omega arith ]) h

  -- the same the other way
  pub same_length : ((x : ℕ) → count x m ≤ 1) → ((x : ℕ) → 0 < count x m → 0 < count x l) → length l ≡ length m
  same_length once' back = sym (ones l) ∙ same_sum (λ x. 1) l m same ∙ ones m
    where
      same : (x : ℕ) → count x l ≡ count x m
      same x = elim (dec_lt 0 (count x l)) [
        | yes p ↦ omega (arith, once x, into x p, once' x)
        | no n ↦ elim (dec_lt 0 (count x m)) [ yes q ↦ absurd (omega (arith, back x q)) | no o ↦ omega arith ]
      ]

-- where no value is taken twice, no two elements have the same
pub image_inj : (g : ℕ → ℕ) (l : List ℕ) (u v : ℕ) → count (g u) (image g l) ≤ 1 → 0 < count u l → 0 < count v l → g u ≡ g v → u ≡ v
image_inj g l u v h p q e =
    let (i, a, s) = at_count u l p in
    let (j, c, t) = at_count v l q in
    let n : length (image g l) ≡ length l = length-image g l in
    let same : i ≡ j = same_at (g u) (image g l) h i j (omega arith) (omega arith) (image-at g l i a ∙ ap g s) (image-at g l j c ∙ ap g t ∙ sym e) in
    sym s ∙ ap (λ (k : ℕ). get_or l k 0) same ∙ t
