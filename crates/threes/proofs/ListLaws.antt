-- The place of a three in a list, turn by turn, and where it is found. Assumes nothing.
use mathlib.Core.Path.{◌≡◌, refl, ap, ◌∙◌}
use mathlib.Core.Logic.{◌≢◌}
use mathlib.Core.Bool.{Bool, true, false, cond}
use mathlib.Core.List.{List}
use Prim.Native.Nat.{ℕ, zero, suc, ◌+◌, ◌-◌, ◌*◌, ◌≤◌, ◌<◌}
use native.Mathlib.Omega.{arith}
use borrow.Author.Tests.{eq-eqb, ne_eqb, eqb-false}
use lib.Dec.{eqb}
use Rattle.memory.specs.Words.{word}
use Rattle.memory.specs.Partition.{list, threes, table_for}
use Rattle.rules.specs.Effects.{place_of, three_place}

module _ (b : ℕ) (m : List ℕ) (l a n j : ℕ) where
  pub place_here : j < n → word b m l (2 + 6 * j) ≡ a → place_of b (n - j) j m l a ≡ j
  unfolding place_of
  place_here h e =
      let q : n - j ≡ suc (n - (j + 1)) = omega arith in
      ap (λ (x : ℕ). place_of b x j m l a) q ∙ simp (eq-eqb _ _ e)

  pub place-next : j < n → word b m l (2 + 6 * j) ≢ a → place_of b (n - j) j m l a ≡ place_of b (n - (j + 1)) (j + 1) m l a
  unfolding place_of
  place-next h ne =
      let q : n - j ≡ suc (n - (j + 1)) = omega arith in
      let r : suc j ≡ j + 1 = omega arith in
      ap (λ (x : ℕ). place_of b x j m l a) q ∙ simp (ne_eqb _ _ ne) (ap (λ (x : ℕ). place_of b (n - (j + 1)) x m l a) r)

  pub place_end : n ≤ j → place_of b (n - j) j m l a ≡ j
  unfolding place_of
  place_end h =
      let q : n - j ≡ 0 = omega arith in
      ap (λ (x : ℕ). place_of b x j m l a) q

pub place_is : (b : ℕ) (m : List ℕ) (k t n l w : ℕ) → n ≡ threes b m k → l ≡ list b m k → w ≡ table_for b m k t → place_of b n 0 m l (w - 1) ≡ three_place b m k t
place_is b m k t n l w hn hl hw = rw (hn, hl, hw)

-- one of the places has it
found-step : (b : ℕ) (m : List ℕ) (l a i j r : ℕ) (t : Bool) (n : ℕ) → eqb (word b m l (2 + 6 * i)) a ≡ t → i ≤ j → word b m l (2 + 6 * j) ≡ a
    → (suc i ≤ j → r < suc i + n) → cond t i r < i + suc n
found-step b m l a i j r true n q h e ih = omega arith
found-step b m l a i j r false n q h e ih =
    let other : i ≢ j = λ z. eqb-false _ _ q (ap (λ (x : ℕ). word b m l (2 + 6 * x)) z ∙ e) in
    omega (arith, ih (omega arith))

pub place_found : (b : ℕ) (m : List ℕ) (l a n i j : ℕ) → i ≤ j → j < i + n → word b m l (2 + 6 * j) ≡ a → place_of b n i m l a < i + n
unfolding place_of
place_found b m l a zero i j h k e = absurd (omega arith)
place_found b m l a (suc n) i j h k e =
    found-step b m l a i j (place_of b n (suc i) m l a) (eqb (word b m l (2 + 6 * i)) a) n refl h e (λ q. place_found b m l a n (suc i) j q (omega arith) e)
