-- Wiping and filling a page: every word of every other page stays. Assumes nothing.
use mathlib.Core.Path.{◌≡◌, ap, ◌∙◌}
use mathlib.Core.Logic.{◌≢◌, ◌⊎◌, inl, inr}
use mathlib.Core.List.{List, ◌++◌}
use Prim.Native.Nat.{ℕ, min, ◌+◌, ◌-◌, ◌≤◌, ◌<◌}
use native.Mathlib.Nat.{mul-le-mul_right, suc-mul}
use native.Mathlib.Decide.{dec_lt}
use native.Mathlib.Omega.{arith}
use lib.ListN.{length, get_or, take, drop, replicate, length-replicate, get_or-replicate}
use Rattle.memory.specs.Geometry.{page_words}
use Rattle.memory.specs.Words.{start, index, word, overwrite, fill, wipe}
use Rattle.common.proofs.Overwrite.{length-overwrite, overwrite-before, overwrite-after, overwrite-at, part-back}

pub three_ways : (x y : ℕ) → (x < y) ⊎ ((x ≡ y) ⊎ (y < x))
three_ways x y = pick (dec_lt x y) (dec_lt y x)
  where
    pick : Dec (x < y) → Dec (y < x) → (x < y) ⊎ ((x ≡ y) ⊎ (y < x))
    pick (yes l) e = inl l
    pick (no f) (yes l) = inr (inr l)
    pick (no f) (no g) = inr (inl (omega arith))

-- another page's words lie before page p, or after it
pub page-apart : (b p q i : ℕ) → p ≢ q → i < page_words b → (index b q i < start b p) ⊎ (start b p + page_words b ≤ index b q i)
page-apart b p q i ne h = pick (three_ways p q)
  where
    pick : (p < q) ⊎ ((p ≡ q) ⊎ (q < p)) → (index b q i < start b p) ⊎ (start b p + page_words b ≤ index b q i)
    pick (inl l) = inr (omega (arith, mul-le-mul_right (page_words b) l, suc-mul p (page_words b)))
    pick (inr (inl e)) = absurd (ne e)
    pick (inr (inr l)) = inl (omega (arith, mul-le-mul_right (page_words b) l, suc-mul q (page_words b)))

pub wipe-frame : (b : ℕ) (m : List ℕ) (p q i : ℕ) → p ≢ q → i < page_words b → word b (wipe b m p) q i ≡ word b m q i
unfolding wipe fill
wipe-frame b m p q i ne h = pick (page-apart b p q i ne h)
  where
    zeros : List ℕ
    zeros = replicate (page_words b) 0

    pick : (index b q i < start b p) ⊎ (start b p + page_words b ≤ index b q i) → get_or (overwrite m (start b p) zeros) (index b q i) 0 ≡ get_or m (index b q i) 0
    pick (inl l) = overwrite-before m (start b p) zeros (index b q i) l
    pick (inr l) = overwrite-after m (start b p) zeros (index b q i) (omega (arith, length-replicate {A = ℕ} (page_words b) 0))

pub wipe-own : (b : ℕ) (m : List ℕ) (p i : ℕ) → i < page_words b → index b p i < length m → word b (wipe b m p) p i ≡ 0
unfolding wipe fill
wipe-own b m p i h k =
    overwrite-at m (start b p) (replicate (page_words b) 0) i (omega (arith, length-replicate {A = ℕ} (page_words b) 0)) k
    ∙ get_or-replicate (page_words b) i 0 0 h

module _ (b : ℕ) (m : List ℕ) (p a e : ℕ) (ha : a ≡ min (start b p) (length m)) (he : e ≡ min (start b p + page_words b) (length m)) where
  pub fill-back : (ws ys : List ℕ) → length ws ≤ page_words b → ys ≡ overwrite (take (e - a) (drop a m)) 0 ws
      → take a m ++ (ys ++ drop (e - a) (drop a m)) ≡ fill b m p ws
  unfolding fill
  fill-back ws ys h k = ap (λ (l : List ℕ). take a m ++ (l ++ drop (e - a) (drop a m))) k ∙ part-back m (start b p) (page_words b) a e ws h ha he

pub length-wipe : (b : ℕ) (m : List ℕ) (p : ℕ) → length (wipe b m p) ≡ length m
unfolding wipe fill
length-wipe b m p = length-overwrite m (start b p) (replicate (page_words b) 0)
