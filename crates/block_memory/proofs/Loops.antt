-- A loop over the numbers from i up to e, turn by turn: of a test of each, of a search for the lowest, and of changes one after the other. Assumes nothing.
use mathlib.Core.Path.{◌≡◌, refl, sym, ap, ◌∙◌}
use mathlib.Core.List.{List, [], ◌∷◌}
use mathlib.Core.Bool.{Bool, true, false}
use Prim.Native.Nat.{ℕ, zero, suc, ◌+◌, ◌-◌, ◌≤◌, ◌<◌}
use native.Mathlib.Omega.{arith}
use native.Mathlib.Numerals.{add-one}
use Rattle.walk.specs.Finite.{from, all}
use Rattle.block_memory.specs.Words.{over}
use Rattle.block_memory.specs.Partition.{lowest}

-- what is left from i on
abbrev pub left : ℕ → ℕ → List ℕ
left e i = from (e - i) i

none_left : (e i : ℕ) → e ≤ i → left e i ≡ []
unfolding from
none_left e i h = let z : e - i ≡ 0 = omega arith in ap (λ (n : ℕ). from n i) z

one_left : (e i : ℕ) → i < e → left e i ≡ i ∷ left e (i + 1)
unfolding from
one_left e i h =
    let z : e - i ≡ suc (e - (i + 1)) = omega arith in
    ap (λ (n : ℕ). from n i) z ∙ ap (λ (j : ℕ). i ∷ from (e - (i + 1)) j) (sym (add-one i))

-- ---- a test of each

module _ (f : ℕ → Bool) (e i : ℕ) where
  pub all_end : e ≤ i → true ≡ all f (left e i)
  unfolding all
  all_end h = sym (ap (all f) (none_left e i h))

  pub all-stop : i < e → f i ≡ false → false ≡ all f (left e i)
  unfolding all
  all-stop h t = sym (ap (all f) (one_left e i h) ∙ rw t refl)

  pub all-next : i < e → f i ≡ true → all f (left e (i + 1)) ≡ all f (left e i)
  unfolding all
  all-next h t = sym (ap (all f) (one_left e i h) ∙ rw t refl)

-- ---- a search for the lowest

module _ (f : ℕ → Bool) (e i : ℕ) where
  pub lowest-end : e ≤ i → 0 ≡ lowest f (left e i)
  unfolding lowest
  lowest-end h = sym (ap (lowest f) (none_left e i h))

  pub lowest-stop : i < e → f i ≡ true → i ≡ lowest f (left e i)
  unfolding lowest
  lowest-stop h t = sym (ap (lowest f) (one_left e i h) ∙ rw t refl)

  pub lowest-next : i < e → f i ≡ false → lowest f (left e (i + 1)) ≡ lowest f (left e i)
  unfolding lowest
  lowest-next h t = sym (ap (lowest f) (one_left e i h) ∙ rw t refl)

-- ---- changes one after the other

module _ (f : List ℕ → ℕ → List ℕ) (e i : ℕ) (m : List ℕ) where
  pub over-end : e ≤ i → m ≡ over f m (left e i)
  unfolding over
  over-end h = sym (ap (over f m) (none_left e i h))

  pub over-next : i < e → over f (f m i) (left e (i + 1)) ≡ over f m (left e i)
  unfolding over
  over-next h = sym (ap (over f m) (one_left e i h))

-- ---- several at once, from i to j

module _ (f : ℕ → Bool) (e j : ℕ) (top : j ≤ e) where
  all-steps : (k i : ℕ) → i + k ≡ j → ((x : ℕ) → i ≤ x → x < j → f x ≡ true) → all f (left e j) ≡ all f (left e i)
  all-steps zero i q h = ap (λ (x : ℕ). all f (left e x)) (omega arith)
  all-steps (suc k) i q h =
      all-steps k (i + 1) (omega arith) (λ x a b. h x (omega arith) b) ∙ all-next f e i (omega arith) (h i (omega arith) (omega arith))

  pub all-skip : (i : ℕ) → i ≤ j → ((x : ℕ) → i ≤ x → x < j → f x ≡ true) → all f (left e j) ≡ all f (left e i)
  all-skip i l h = all-steps (j - i) i (omega arith) h

  lowest-steps : (k i : ℕ) → i + k ≡ j → ((x : ℕ) → i ≤ x → x < j → f x ≡ false) → lowest f (left e j) ≡ lowest f (left e i)
  lowest-steps zero i q h = ap (λ (x : ℕ). lowest f (left e x)) (omega arith)
  lowest-steps (suc k) i q h =
      lowest-steps k (i + 1) (omega arith) (λ x a b. h x (omega arith) b) ∙ lowest-next f e i (omega arith) (h i (omega arith) (omega arith))

  pub lowest-skip : (i : ℕ) → i ≤ j → ((x : ℕ) → i ≤ x → x < j → f x ≡ false) → lowest f (left e j) ≡ lowest f (left e i)
  lowest-skip i l h = lowest-steps (j - i) i (omega arith) h
