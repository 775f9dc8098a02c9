-- What each partition counts for a byte, in hand or for the kernel, and what that comes to over all bytes of the starting block. Assumes nothing.
use mathlib.Core.Path.{◌≡◌, ◌∙◌}
use mathlib.Core.List.{List}
use mathlib.Core.Logic.{◌≢◌}
use mathlib.Core.Bool.{Bool, cond, not, ◌&&◌}
use Prim.Native.Nat.{ℕ, ◌+◌, ◌*◌, ◌≤◌, ◌<◌}
use native.Mathlib.Omega.{arith}
use native.Mathlib.Decide.{ℕ_discrete}
use lib.Dec.{eqb}
use lib.ListN.{length}
use borrow.Author.Tests.{eq-eqb, ne_eqb}
use Rattle.walk.specs.Lists.{count, sum_of, sum-add}
use Rattle.walk.specs.Reflect.{Tells, both, eq?, isn't}
use Rattle.walk.specs.Finite.{from, in_from, from-once, keep, keep_in, keep-once}
use Rattle.block_memory.specs.Geometry.{first_byte, flat_bytes}
use Rattle.block_memory.specs.Words.{word}
use Rattle.block_memory.specs.Partition.{numbers, structure_numbers, root, Partition, parent, number, structure, start, end, used, holder}
use Rattle.block_memory.specs.Bytes.{Live}
use Rattle.block_memory.specs.Sound.{Sound}
use Rattle.block_soundness.specs.Counts.{size, descriptor_bytes, structure_bytes}
use Rattle.block_soundness.proofs.Ranges.{permitted-now, has-range, structure-range}
use Rattle.block_soundness.proofs.Blocks.{used_as, block, field-has}
use Rattle.block_soundness.proofs.Up.{above-first}
use Rattle.block_soundness.proofs.Records.{desc_in, struct-held}
use Rattle.block_soundness.proofs.Sums.{sum-zero, sum_in, sum_swap, between, all-between}

module _ (m : List ℕ) where
  -- the bytes of the starting block
  abbrev pub bytes : List ℕ
  bytes = from (flat_bytes (length m)) (first_byte (length m))

  -- block n of d has x: 1, else 0
  abbrev pub at : ℕ → ℕ → ℕ → ℕ
  at d n x = between (start m d n) (end m d n) x

  -- ---- the blocks in d's hand

  hand? : (d n : ℕ) → Tells (eqb (used m d n) 1) (used m d n ≡ 1)
  hand? d n = eq?

  abbrev pub hands : ℕ → List ℕ
  hands d = keep (λ n. eqb (used m d n) 1) numbers

  pub hand_in : (d n : ℕ) → 0 < count n (hands d) → used m d n ≡ 1
  hand_in d n h = (hand? d n).0 ((keep_in (λ n. eqb (used m d n) 1) n numbers).0 h).1

  pub in-hand : (d n : ℕ) → used m d n ≡ 1 → count n (hands d) ≡ 1
  in-hand d n e =
      let r = has-range m d n (field-has m d n 3 (λ z. omega (arith, z, e))) in
      let h = (keep_in (λ n. eqb (used m d n) 1) n numbers).1 (in_from 128 8 n r.0 r.1, (hand? d n).1 e) in
      omega (arith, h, keep-once (λ n. eqb (used m d n) 1) n numbers (from-once 128 8 n))

  -- ---- d's structures but the root's first, and the block that structure k stands in

  abbrev pub Other : ℕ → ℕ → Type 0
  Other d k = (structure m d k ≢ 0) × ¬ ((d ≡ root m) × (k ≡ 1))

  abbrev other : ℕ → ℕ → Bool
  other d k = not (eqb (structure m d k) 0) && not (eqb d (root m) && eqb k 1)

  other? : (d k : ℕ) → Tells (other d k) (Other d k)
  other? d k = both (isn't eq?) (isn't (both eq? eq?))

  abbrev pub others : ℕ → List ℕ
  others d = keep (other d) structure_numbers

  pub other_in : (d k : ℕ) → 0 < count k (others d) → Other d k
  other_in d k h = (other? d k).0 ((keep_in (other d) k structure_numbers).0 h).1

  pub in_other : (d k : ℕ) → Other d k → count k (others d) ≡ 1
  in_other d k o =
      let r = structure-range m d k o.0 in
      let h = (keep_in (other d) k structure_numbers).1 (in_from 16 1 k r.0 r.1, (other? d k).1 o) in
      omega (arith, h, keep-once (other d) k structure_numbers (from-once 16 1 k))

  abbrev pub in_block : ℕ → ℕ → ℕ
  in_block d k = holder m d (structure m d k)

  abbrev pub its_number : ℕ → ℕ → ℕ
  its_number d k = word m (structure m d k)

  -- ---- what d counts for the byte x

  unfoldable pub hand_of : ℕ → ℕ → ℕ
  hand_of d x = sum_of (λ n. at d n x) (hands d)

  unfoldable pub desc_of : ℕ → ℕ → ℕ
  desc_of d x = cond (eqb d (root m)) 0 (at (parent m d) (number m d) x)

  unfoldable pub struct_of : ℕ → ℕ → ℕ
  struct_of d x = sum_of (λ k. at (in_block d k) (its_number d k) x) (others d)

  abbrev pub each : ℕ → ℕ → ℕ
  each d x = hand_of d x + (desc_of d x + struct_of d x)

  pub desc-root : (d x : ℕ) → d ≡ root m → desc_of d x ≡ 0
  unfolding desc_of
  desc-root d x e = rw (eq-eqb d (root m) e)

  pub desc-other : (d x : ℕ) → d ≢ root m → desc_of d x ≡ at (parent m d) (number m d) x
  unfolding desc_of
  desc-other d x e = rw (ne_eqb d (root m) e)

-- ---- summed over the bytes

module _ (m : List ℕ) (s : Sound m) where
  pub large : first_byte (length m) ≤ 4 * length m
  large = let p = permitted-now m s in omega (arith, p.whole, p.least)

  whole : (d n : ℕ) → Live m d n → sum_of (at m d n) (bytes m) ≡ size m d n
  whole d n l =
      all-between (flat_bytes (length m)) (first_byte (length m)) (start m d n) (end m d n) (above-first m s l) (omega (arith, large, (block m s l).form.inside))

  hand-bytes : (d : ℕ) → Partition m d → sum_of (hand_of m d) (bytes m) ≡ sum_of (size m d) (hands m d)
  unfolding hand_of
  hand-bytes d p =
      sum_swap (λ x n. at m d n x) (bytes m) (hands m d)
      ∙ sum_in (λ n. sum_of (at m d n) (bytes m)) (size m d) (hands m d) (λ n h. whole d n (used_as p (hand_in m d n h)))

  desc-bytes : (d : ℕ) → Partition m d → sum_of (desc_of m d) (bytes m) ≡ descriptor_bytes m d
  unfolding descriptor_bytes
  desc-bytes d p = elim (ℕ_discrete d (root m)) [
    | yes e ↦ rw (eq-eqb d (root m) e) (sum-zero (desc_of m d) (bytes m) (λ x h. desc-root m d x e))
    | no e ↦ rw (ne_eqb d (root m) e)
        (sum_in (desc_of m d) (at m (parent m d) (number m d)) (bytes m) (λ x h. desc-other m d x e)
        ∙ whole (parent m d) (number m d) (desc_in m s d p e).alive)
  ]

  struct-bytes : (d : ℕ) → Partition m d → sum_of (struct_of m d) (bytes m) ≡ structure_bytes m d
  unfolding struct_of structure_bytes
  struct-bytes d p =
      let held : ℕ → ℕ → ℕ = λ k. at m (in_block m d k) (its_number m d k) in
      sum_swap (λ x k. held k x) (bytes m) (others m d)
      ∙ sum_in (λ k. sum_of (held k) (bytes m)) (λ k. size m (in_block m d k) (its_number m d k)) (others m d)
      (λ k h. let o = other_in m d k h in whole (in_block m d k) (its_number m d k) (struct-held m s d k p o.0 o.1).1.alive)

  pub each-bytes : (d : ℕ) → Partition m d → sum_of (each m d) (bytes m) ≡ sum_of (size m d) (hands m d) + (descriptor_bytes m d + structure_bytes m d)
  each-bytes d p = omega (
    arith,
    sum-add (hand_of m d) (λ x. desc_of m d x + struct_of m d x) (bytes m),
    sum-add (desc_of m d) (struct_of m d) (bytes m),
    hand-bytes d p,
    desc-bytes d p,
    struct-bytes d p,
  )
