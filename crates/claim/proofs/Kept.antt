-- What demand 3 asks of a memory follows from its soundness. Assumes an index width of 6 or more.
use mathlib.Core.Path.{◌≡◌, subst}
use mathlib.Core.List.{List}
use Prim.Native.Nat.{ℕ, ◌+◌, ◌-◌, ◌*◌, ◌/◌, ◌^◌, ◌≤◌, ◌<◌}
use native.Mathlib.Nat.{mul-le-mul_right}
use native.Mathlib.Omega.{arith}
use Rattle.memory.specs.Geometry.{page_words, threes_for, flat_pages, least_pages}
use Rattle.memory.specs.Partition.{pages}
use Rattle.memory.specs.Uses.{Use}
use Rattle.memory.specs.Sound.{Sound}
use Rattle.memory.proofs.Geometry.{threes_for-least}
use Rattle.memory.proofs.Widths.{words-least}
use Rattle.soundness.proofs.Counts.{counts}
use Rattle.claim.specs.Kept.{Kept}
use Rattle.claim.proofs.Sharing.{vertical, siblings}
use Rattle.claim.proofs.Closed.{closed}
use Rattle.claim.proofs.Access.{no-load, no_store}

module _ (b : ℕ) (wide : 6 ≤ b) (m : List ℕ) (s : Sound b m) where
  big : 61 ≤ page_words b
  big = omega (arith, words-least b wide)

  -- what is left of N after page 0, the root's five pages and its threes: the subtraction does not go below 0
  handed : (n : ℕ) → least_pages ≤ n → 6 + 3 * threes_for b n + flat_pages b n ≡ n
  handed n l =
      let t = (n - 6) / 3 in
      let h : 67 * t ≤ (2 ^ b + 3) * t = mul-le-mul_right t (omega (arith, words-least b wide)) in
      let few : threes_for b n ≤ t = threes_for-least b n t (omega arith) in
      omega arith

  one-use : (p : ℕ) → 6 + 3 * threes_for b (pages b m) ≤ p → p < pages b m → (u : Use b m p) × ((w : Use b m p) → (w.part ≡ u.part) × (w.way ≡ u.way))
  one-use p l h =
      let i : 0 < p = omega arith in
      let u = s.uses.some p i h in
      (u, λ w. s.uses.one p i h w u)

  kept-pages : Kept b m (pages b m)
  kept-pages = record {
    sound = s;
    vertical = λ k d v c t a. vertical b m s t a;
    siblings = λ k d u v c e t f g. siblings b m s t f g;
    closed = λ k d v t. closed b m s t v;
    no_load = no-load b m s big;
    no_store = no_store b m s big;
    never_both = λ k d v t n. s.never_both k d t n v;
    handed = handed (pages b m) s.header.least;
    one_use = one-use;
    counted = counts b m s big;
    depth = s.depth;
  }

pub kept : (b : ℕ) → 6 ≤ b → (m : List ℕ) (n : ℕ) → Sound b m → pages b m ≡ n → Kept b m n
kept b wide m n s e = subst (Kept b m) e (kept-pages b wide m s)
