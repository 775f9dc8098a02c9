-- All slots of a partition, the eight of a structure at a time. Assumes nothing.
use mathlib.Core.Path.{◌≡◌, refl, sym, ap, ◌∙◌}
use mathlib.Core.Logic.{◌≢◌}
use mathlib.Core.List.{List}
use mathlib.Core.Bool.{Bool, true, false, ◌&&◌, ◌||◌, and_assoc}
use Prim.Native.Nat.{ℕ, zero, suc, ◌+◌, ◌*◌, ◌/◌, ◌-◌, ◌≤◌, ◌<◌}
use native.Mathlib.Omega.{arith}
use lib.Dec.{eqb}
use Rattle.walk.specs.Finite.{from, all}
use Rattle.common.proofs.Chains.{stops, then, holds, or_else}
use Rattle.block_memory.specs.Partition.{structure}
use Rattle.block_memory.proofs.Loops.{left, all-skip, all_end}
use Rattle.block_soundness.specs.Test.{slot_test}
use Rattle.block_layout.proofs.Finding.{is-so, isn't-so}

-- ---- a test of each number, the first a of them and the others

module _ (f : ℕ → Bool) (e : ℕ) where
  all-parts : (a b i : ℕ) → all f (from (a + b) i) ≡ (all f (from a i) && all f (from b (i + a)))
  unfolding from all
  all-parts zero b i =
      let none : 0 + b ≡ b = omega arith in
      let start : i ≡ i + 0 = omega arith in
      ap (λ (c : ℕ). all f (from c i)) none ∙ ap (λ (j : ℕ). all f (from b j)) start
  all-parts (suc a) b i =
      let one : suc a + b ≡ suc (a + b) = omega arith in
      let start : suc i + a ≡ i + suc a = omega arith in
      ap (λ (c : ℕ). all f (from c i)) one
      ∙ ap (λ (t : Bool). f i && t) (all-parts a b (suc i) ∙ ap (λ (j : ℕ). all f (from a (suc i)) && all f (from b j)) start)
      ∙ sym (and_assoc (f i) (all f (from a (suc i))) (all f (from b (i + suc a))))

  module _ (a i : ℕ) (inside : i + a ≤ e) where
    left-parts : all f (left e i) ≡ (all f (from a i) && all f (left e (i + a)))
    left-parts =
        let count : e - i ≡ a + (e - (i + a)) = omega arith in
        ap (λ (c : ℕ). all f (from c i)) count ∙ all-parts a (e - (i + a)) i

    pub part-fails : all f (from a i) ≡ false → false ≡ all f (left e i)
    part-fails h = sym (left-parts ∙ stops h _)

    pub part-passes : all f (from a i) ≡ true → all f (left e (i + a)) ≡ all f (left e i)
    part-passes h = sym (left-parts ∙ then h refl)

module _ (m : List ℕ) (d : ℕ) where
  -- d has no slot of number n, or one that is as it must be
  abbrev pub slot_or : ℕ → Bool
  slot_or n = eqb (structure m d (n / 8)) 0 || slot_test m d n

  module _ (k : ℕ) where
    pub eight-left : all slot_or (left (8 * k + 8) (8 * k)) ≡ all slot_or (from 8 (8 * k))
    eight-left = let count : 8 * k + 8 - 8 * k ≡ 8 = omega arith in ap (λ (c : ℕ). all slot_or (from c (8 * k))) count

    -- the structure stands at s
    module _ {s : ℕ} (at : s ≡ structure m d k) where
      pub none-there : s ≡ 0 → true ≡ all slot_or (from 8 (8 * k))
      none-there h =
          all_end slot_or (8 * k + 8) (8 * k + 8) (omega arith)
          ∙ all-skip slot_or (8 * k + 8) (8 * k + 8) (omega arith) (8 * k) (omega arith)
          (λ x a b. let same : x / 8 ≡ k = omega arith in holds (is-so refl (ap (structure m d) same ∙ sym at ∙ h)) _)
          ∙ eight-left

      module _ (n : ℕ) (low : 8 * k ≤ n) (high : n < 8 * k + 8) where
        pub at-number : s ≡ structure m d (n / 8)
        at-number = let same : k ≡ n / 8 = omega arith in at ∙ ap (structure m d) same

        pub slot-or : s ≢ 0 → {t : Bool} → slot_test m d n ≡ t → slot_or n ≡ t
        slot-or h e = or_else (isn't-so at-number h) e
