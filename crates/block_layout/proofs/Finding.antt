-- The tests of the searches, from what the code read, and the leap over the numbers of a structure that isn't there. Assumes nothing.
use mathlib.Core.Path.{◌≡◌, refl, sym, ap, ◌∙◌}
use mathlib.Core.Logic.{◌≢◌}
use mathlib.Core.List.{List, [], ◌∷◌}
use mathlib.Core.Bool.{Bool, true, false, not, ◌&&◌}
use Prim.Native.Nat.{ℕ, ◌+◌, ◌*◌, ◌/◌, ◌≤◌, ◌<◌}
use native.Mathlib.Omega.{arith}
use lib.Dec.{eqb}
use borrow.Author.Tests.{eq-eqb, ne_eqb}
use Rattle.std.proofs.Math.Decide.{ℕ_discrete}
use Rattle.walk.specs.Finite.{from, all}
use Rattle.common.proofs.Chains.{stops, then}
use Rattle.block_memory.specs.Partition.{lowest, entry, structure, used, has_byte}
use Rattle.block_memory.proofs.Lookups.{field-none}
use Rattle.block_memory.proofs.Loops.{left, lowest-skip}

-- ---- r was read for x, and compared

module _ {r x : ℕ} (read : r ≡ x) where
  pub is-so : {y : ℕ} → r ≡ y → eqb x y ≡ true
  is-so h = eq-eqb _ _ (sym read ∙ h)

  pub isn't-so : {y : ℕ} → r ≢ y → eqb x y ≡ false
  isn't-so h = ne_eqb _ _ (λ e. h (read ∙ e))

  -- a test that begins with: x isn't 0
  pub missing : (t : Bool) → r ≡ 0 → (not (eqb x 0) && t) ≡ false
  missing t h = stops (ap not (is-so h)) t

  pub there : (t : Bool) → r ≢ 0 → (not (eqb x 0) && t) ≡ t
  there t h = then (ap not (isn't-so h)) refl

-- ---- the tests of the searches

module _ (m : List ℕ) (d : ℕ) where
  abbrev pub no_structure : ℕ → Bool
  no_structure k = eqb (structure m d k) 0

  abbrev pub entry_is : ℕ → ℕ → Bool
  entry_is n e = eqb (entry m d e) n

  -- d has a slot of number n, and f holds of n
  abbrev pub there_and : (ℕ → Bool) → ℕ → Bool
  there_and f n = not (eqb (structure m d (n / 8)) 0) && f n

  -- slot i of structure k is free
  abbrev pub free_in : ℕ → ℕ → Bool
  free_in k i = eqb (used m d (8 * k + i)) 0

  -- d has structure k, and its eight slots are free
  abbrev pub empty_at : ℕ → Bool
  empty_at k = not (eqb (structure m d k) 0) && all (free_in k) (from 8 0)

  -- ---- in structure k, which was looked up as s, and without it

  module _ (f : ℕ → Bool) (k : ℕ) {s : ℕ} (at : s ≡ structure m d k) where
    pub there_tested : (n : ℕ) → 8 * k ≤ n → n < 8 * k + 8 → s ≢ 0 → {r : Bool} → r ≡ f n → there_and f n ≡ r
    there_tested n a b h e = let same : k ≡ n / 8 = omega arith in there (at ∙ ap (structure m d) same) _ h ∙ sym e

    -- a search goes on behind the last number of a structure that isn't there
    pub leap : k < 17 → s ≡ 0 → lowest (there_and f) (left 136 (8 * (k + 1))) ≡ lowest (there_and f) (left 136 (8 * k))
    leap l h =
        lowest-skip (there_and f) 136 (8 * (k + 1)) (omega arith) (8 * k) (omega arith)
        (λ n a b. let same : k ≡ n / 8 = omega arith in missing (at ∙ ap (structure m d) same) _ h)

  -- only a slot of a structure that is there has a byte
  byte_there : (x n : ℕ) → there_and (has_byte m d x) n ≡ has_byte m d x n
  unfolding has_byte
  byte_there x n = by (ℕ_discrete (structure m d (n / 8)) 0)
    where
      unused : used m d n ≡ 0 → has_byte m d x n ≡ false
      unused z = stops (missing refl _ z) _

      by : Dec (structure m d (n / 8) ≡ 0) → there_and (has_byte m d x) n ≡ has_byte m d x n
      by (yes e) = missing refl _ e ∙ sym (unused (field-none m d n 3 e))
      by (no h) = there refl _ h

  pub lowest_there : (x : ℕ) (xs : List ℕ) → lowest (there_and (has_byte m d x)) xs ≡ lowest (has_byte m d x) xs
  unfolding lowest
  lowest_there x [] = refl
  lowest_there x (n ∷ ns) = rw (byte_there x n, lowest_there x ns) refl
