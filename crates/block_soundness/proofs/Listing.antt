-- Sound memory: the list of partitions has each once, and the search for a byte finds the block that has it. Assumes nothing.
use mathlib.Core.Path.{◌≡◌, refl, sym, ap, ◌∙◌}
use mathlib.Core.List.{List}
use mathlib.Core.Logic.{◌≢◌}
use mathlib.Core.Bool.{Bool, false≢true, not}
use Prim.Native.Nat.{ℕ, ◌+◌, ◌/◌, ◌≤◌, ◌<◌}
use native.Mathlib.Omega.{arith}
use native.Mathlib.Decide.{ℕ_discrete}
use lib.Dec.{eqb}
use lib.ListN.{length}
use Rattle.walk.specs.Lists.{count}
use Rattle.walk.specs.Reflect.{Tells, via, both, eq?, le?, lt?, isn't}
use Rattle.walk.specs.Finite.{from, below, from-once, in_from, keep, keep_in, keep-once, image, image_in, in_image, image-once}
use Rattle.block_memory.specs.Words.{word}
use Rattle.block_memory.specs.Partition.{Partition, partitions, level, has_byte, block_at, numbers}
use Rattle.block_memory.specs.Bytes.{HasByte}
use Rattle.block_memory.specs.Sound.{Sound}
use Rattle.block_memory.proofs.Lowest.{lowest-some, lowest-none, zero-out}
use Rattle.block_soundness.proofs.Ranges.{permitted-now, table-has, has-range}
use Rattle.block_soundness.proofs.Blocks.{field-has}
use Rattle.block_soundness.proofs.Once.{equal-level}

module _ (m : List ℕ) (s : Sound m) where
  -- the table's word j, the numbers of its words, and the words
  abbrev at : ℕ → ℕ
  at j = word m (8 + j)

  abbrev indices : List ℕ
  indices = from (length m / 32) 0

  abbrev words : List ℕ
  words = image at indices

  abbrev isn't_0 : ℕ → Bool
  isn't_0 x = not (eqb x 0)

  -- a word that isn't 0 is in one place
  in_place : (u j : ℕ) → u ≢ 0 → 0 < count j indices → at j ≡ u → u / 32 ≡ j
  in_place u j n c e = ap (λ (x : ℕ). x / 32) (sym e) ∙ s.table.words j ((below (length m / 32) j).0 c) (λ z. n (sym e ∙ z))

  pub listed : (u : ℕ) → 0 < count u (partitions m) → Partition m u
  unfolding partitions
  listed u h =
      let (a, b) = (keep_in isn't_0 u words).0 h in
      let (j, c, e) = image_in at u indices a in
      let n : u ≢ 0 = (isn't eq?).0 b in
      let i : j < length m / 32 = (below (length m / 32) j).0 c in
      let g : u / 32 ≡ j = in_place u j n c e in
      record { some = omega arith; inside = omega arith; listed = ap at g ∙ e }

  pub in_list : (u : ℕ) → Partition m u → 0 < count u (partitions m)
  unfolding partitions
  in_list u p =
      let i : 0 < count (u / 32) indices = (below (length m / 32) (u / 32)).1 (table-has m (permitted-now m s) u p) in
      let a : 0 < count (at (u / 32)) words = in_image at (u / 32) indices i in
      (keep_in isn't_0 u words).1 (omega (arith, a, ap (λ (x : ℕ). count x words) p.listed), (isn't {P = u ≡ 0} eq?).1 (λ z. omega (arith, z, p.some)))

  pub listed-once : (u : ℕ) → count u (partitions m) ≤ 1
  unfolding partitions
  listed-once u = elim (ℕ_discrete u 0) [
    | yes z ↦ elim (ℕ_discrete (count u (keep isn't_0 words)) 0) [
      | yes e ↦ omega arith
      | no e ↦ absurd ((isn't eq?).0 ((keep_in isn't_0 u words).0 (omega arith)).1 z)
    ]
    | no z ↦ keep-once isn't_0 u words (image-once at u indices (from-once (length m / 32) 0) (λ j k a b e f.
        sym (in_place u j z a e) ∙ in_place u k z b f))
  ]

  -- ---- the block that has a byte

  byte? : (d n x : ℕ) → Partition m d → Tells (has_byte m d x n) (HasByte m d n x)
  unfolding has_byte
  byte? d n x p = via (both (both (isn't eq?) le?) lt?)
      (λ ((a, b), c). record { live = record { partition = p; block = a }; from = b; up_to = c })
      (λ b. ((b.live.block, b.from), b.up_to))

  pub found : (d x : ℕ) → Partition m d → block_at m d x ≢ 0 → HasByte m d (block_at m d x) x
  unfolding block_at
  found d x p h = (byte? d (block_at m d x) x p).0 (lowest-some (has_byte m d x) numbers h).0

  pub finds : (d n x : ℕ) → HasByte m d n x → block_at m d x ≡ n
  unfolding block_at
  finds d n x b = elim (ℕ_discrete (block_at m d x) 0) [
    | yes z ↦
        let r = has-range m d n (field-has m d n 3 b.live.block) in
        let e = lowest-none (has_byte m d x) numbers (zero-out 128 8 (omega arith)) z n (in_from 128 8 n r.0 r.1) in
        absurd (false≢true (sym e ∙ (byte? d n x b.live.partition).1 b))
    | no z ↦ (equal-level m s (level m d) d d (block_at m d x) n x refl refl (found d x b.live.partition z) b).1
  ]
