-- A search from i on among n numbers. Assumes nothing.
use mathlib.Core.Path.{◌≡◌, refl, sym, ap, ◌∙◌, subst}
use mathlib.Core.Bool.{Bool, true, false, cond}
use Prim.Native.Nat.{ℕ, zero, suc, ◌+◌, ◌-◌, ◌≤◌, ◌<◌}
use native.Mathlib.Omega.{arith}
use native.Mathlib.Decide.{ℕ_discrete}
use Rattle.tally.specs.Search.{seek}

-- r is the first at which p holds, or the end
pub record Sought (p : ℕ → Bool) (n i r : ℕ) : Type 0 where
  pub low : i ≤ r
  pub high : r ≤ i + n
  pub passed : (x : ℕ) → i ≤ x → x < r → p x ≡ false
  pub here : r < i + n → p r ≡ true

module _ (p : ℕ → Bool) where
  seek_is : (n i : ℕ) → Sought p n i (seek p n i)
  unfolding seek
  seek_is zero i = record { low = omega arith; high = omega arith; passed = λ x a c. absurd (omega arith); here = λ l. absurd (omega arith) }
  seek_is (suc n) i = go (p i) refl (seek_is n (suc i))
    where
      go : (t : Bool) → p i ≡ t → Sought p n (suc i) (seek p n (suc i)) → Sought p (suc n) i (cond t i (seek p n (suc i)))
      go true e s = record { low = omega arith; high = omega arith; passed = λ x a c. absurd (omega arith); here = λ l. e }
      go false e s =
          record {
            low = omega (arith, s.low);
            high = omega (arith, s.high);
            passed = λ x a c. elim (ℕ_discrete x i) [ yes q ↦ ap p q ∙ e | no q ↦ s.passed x (omega arith) c ];
            here = λ l. s.here (omega arith);
          }

  pub sought : (n i : ℕ) {r : ℕ} → r ≡ seek p n i → Sought p n i r
  sought n i e = subst (Sought p n i) (sym e) (seek_is n i)

  -- where a loop that goes by searches up to k stands next
  pub next_low : (k i : ℕ) {r : ℕ} → r ≡ seek p (k - i) i → i ≤ r
  next_low k i e = (sought (k - i) i e).low

  pub next-high : (k i : ℕ) {r : ℕ} → i ≤ k → r ≡ seek p (k - i) i → r ≤ k
  next-high k i h e = omega (arith, (sought (k - i) i e).high)

  pub next_here : (k i : ℕ) {r : ℕ} → i ≤ k → r ≡ seek p (k - i) i → r < k → p r ≡ true
  next_here k i h e l = (sought (k - i) i e).here (omega arith)

  -- the steps of the search itself
  pub seek-on : (k i : ℕ) → i < k → p i ≡ false → seek p (k - i) i ≡ seek p (k - (i + 1)) (i + 1)
  unfolding seek
  seek-on k i h e =
      let q : k - i ≡ suc (k - (i + 1)) = omega arith in
      let r : suc i ≡ i + 1 = omega arith in
      ap (λ (n : ℕ). seek p n i) q ∙ ap (λ (t : Bool). cond t i (seek p (k - (i + 1)) (suc i))) e ∙ ap (seek p (k - (i + 1))) r

  pub seek-here : (k i : ℕ) → i < k → p i ≡ true → seek p (k - i) i ≡ i
  unfolding seek
  seek-here k i h e =
      let q : k - i ≡ suc (k - (i + 1)) = omega arith in
      ap (λ (n : ℕ). seek p n i) q ∙ ap (λ (t : Bool). cond t i (seek p (k - (i + 1)) (suc i))) e

  pub seek-end : (k i : ℕ) → k ≤ i → seek p (k - i) i ≡ i
  unfolding seek
  seek-end k i h = let q : k - i ≡ 0 = omega arith in ap (λ (n : ℕ). seek p n i) q

  seek-run : (n k i : ℕ) → i + n ≤ k → ((x : ℕ) → i ≤ x → x < i + n → p x ≡ false) → seek p (k - i) i ≡ seek p (k - (i + n)) (i + n)
  seek-run zero k i l h = let e : i ≡ i + zero = omega arith in ap (λ (j : ℕ). seek p (k - j) j) e
  seek-run (suc n) k i l h =
      let e : i + 1 + n ≡ i + suc n = omega arith in
      seek-on k i (omega arith) (h i (omega arith) (omega arith)) ∙ seek-run n k (i + 1) (omega arith) (λ x a c. h x (omega arith) (omega arith)) ∙ ap (λ (j : ℕ). seek p (k - j) j) e

  -- on past numbers at which p does not hold
  pub seek-past : (k i r : ℕ) → i ≤ r → r ≤ k → ((x : ℕ) → i ≤ x → x < r → p x ≡ false) → seek p (k - i) i ≡ seek p (k - r) r
  seek-past k i r a l h =
      let e : i + (r - i) ≡ r = omega arith in
      seek-run (r - i) k i (omega arith) (λ x c d. h x c (omega arith)) ∙ ap (λ (j : ℕ). seek p (k - j) j) e
