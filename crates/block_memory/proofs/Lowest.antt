-- The searches: what they find, and that what they don't find isn't there. Assumes nothing.
use mathlib.Core.Path.{◌≡◌, refl, sym, ap, ◌∙◌}
use mathlib.Core.Logic.{◌≢◌}
use mathlib.Core.List.{List, [], ◌∷◌}
use mathlib.Core.Bool.{Bool, true, false, cond, ◌&&◌, not}
use Prim.Native.Nat.{ℕ, ◌+◌, ◌*◌, ◌/◌, ◌%◌, ◌≤◌, ◌<◌}
use native.Mathlib.Omega.{arith}
use native.Mathlib.Decide.{ℕ_discrete, dec_lt}
use lib.Dec.{eqb}
use borrow.Author.Tests.{eqb-true, eqb-false}
use Rattle.walk.specs.Lists.{count, hit, hit_same, hit_eq, hit_other}
use Rattle.walk.specs.Reflect.{both, eq?, isn't}
use Rattle.walk.specs.Finite.{from, all, from_in, in_from, below, all?}
use Rattle.block_memory.specs.Partition.{lowest, entry, structure, Has, used, free_number, free_structure, empty_structure, entry_of}

pub lowest-some : (f : ℕ → Bool) (xs : List ℕ) → lowest f xs ≢ 0 → (f (lowest f xs) ≡ true) × (0 < count (lowest f xs) xs)
unfolding lowest count
lowest-some f [] h = absurd (h refl)
lowest-some f (y ∷ ys) h = go (lowest-some f ys) (f y) refl h
  where
    go : (lowest f ys ≢ 0 → (f (lowest f ys) ≡ true) × (0 < count (lowest f ys) ys)) → (t : Bool) → f y ≡ t → cond t y (lowest f ys) ≢ 0
        → (f (cond t y (lowest f ys)) ≡ true) × (0 < hit (cond t y (lowest f ys)) y + count (cond t y (lowest f ys)) ys)
    go ih true q h = (q, omega (arith, hit_same y))
    go ih false q h = let (a, b) = ih h in (a, omega arith)

-- in a list without 0
pub lowest-none : (f : ℕ → Bool) (xs : List ℕ) → count 0 xs ≡ 0 → lowest f xs ≡ 0 → (x : ℕ) → 0 < count x xs → f x ≡ false
unfolding lowest count
lowest-none f [] n e x h = absurd (omega arith)
lowest-none f (y ∷ ys) n e x h = go (lowest-none f ys (omega arith)) (f y) refl e (ℕ_discrete x y)
  where
    go : (lowest f ys ≡ 0 → (x : ℕ) → 0 < count x ys → f x ≡ false) → (t : Bool) → f y ≡ t → cond t y (lowest f ys) ≡ 0 → Dec (x ≡ y) → f x ≡ false
    go ih true q e w = absurd (omega (arith, hit_eq 0 y (sym e), n))
    go ih false q e (yes w) = ap f w ∙ q
    go ih false q e (no w) = ih e x (omega (arith, hit_other x y w))

pub zero-out : (n i : ℕ) → 0 < i → count 0 (from n i) ≡ 0
zero-out n i h = elim (dec_lt 0 (count 0 (from n i))) [ yes p ↦ absurd (omega (arith, (from_in n i 0 p).0)) | no q ↦ omega arith ]

module _ (m : List ℕ) (d : ℕ) where
  -- the number of a free slot
  pub free-number : free_number m d ≢ 0 → Has m d (free_number m d) × (used m d (free_number m d) ≡ 0)
  unfolding free_number
  free-number h = (both (isn't eq?) eq?).0 (lowest-some _ (from 128 8) h).0

  pub free-structure : free_structure m d ≢ 0 → (structure m d (free_structure m d) ≡ 0) × (1 ≤ free_structure m d) × (free_structure m d ≤ 16)
  unfolding free_structure
  free-structure h =
      let (a, b) = lowest-some (λ k. eqb (structure m d k) 0) (from 16 1) h in
      let r = from_in 16 1 _ b in
      (eqb-true _ _ a, r.0, omega (arith, r.1))

  pub entry_found : (n : ℕ) → entry_of m d n ≢ 0 → (entry m d (entry_of m d n) ≡ n) × (1 ≤ entry_of m d n) × (entry_of m d n ≤ 8)
  unfolding entry_of
  entry_found n h =
      let (a, b) = lowest-some (λ e. eqb (entry m d e) n) (from 8 1) h in
      let r = from_in 8 1 _ b in
      (eqb-true _ _ a, r.0, omega (arith, r.1))

  pub entry-missing : (n e : ℕ) → entry_of m d n ≡ 0 → 1 ≤ e → e ≤ 8 → entry m d e ≢ n
  unfolding entry_of
  entry-missing n e h a b = eqb-false _ _ (lowest-none (λ k. eqb (entry m d k) n) (from 8 1) (zero-out 8 1 (omega arith)) h e (in_from 8 1 e a (omega arith)))

  -- a structure that is there and has no block
  pub empty-structure : empty_structure m d ≢ 0 → (structure m d (empty_structure m d) ≢ 0) × ((n : ℕ) → n / 8 ≡ empty_structure m d → used m d n ≡ 0)
  unfolding empty_structure
  empty-structure h =
      let f : ℕ → Bool = λ k. not (eqb (structure m d k) 0) && all (λ i. eqb (used m d (8 * k + i)) 0) (from 8 0) in
      let k : ℕ = lowest f (from 16 1) in
      let (a, b) = (both (isn't eq?) (all? {P = λ i. used m d (8 * k + i) ≡ 0} (from 8 0) (below 8) (λ i. eq?))).0 (lowest-some f (from 16 1) h).0 in
      (a, λ n e. ap (used m d) (omega arith) ∙ b (n % 8) (omega arith))
