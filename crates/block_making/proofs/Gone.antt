-- Delete from what it read and found: which blocks are the child's, which partitions go, and what is left. Assumes nothing.
use mathlib.Core.Path.{◌≡◌, refl, sym, ap, ◌∙◌}
use mathlib.Core.Logic.{◌≢◌, ◌⊎◌}
use mathlib.Core.List.{List}
use mathlib.Core.Bool.{Bool, true, not, ◌&&◌}
use Prim.Native.Nat.{ℕ, ◌+◌, ◌*◌, ◌/◌, ◌≤◌, ◌<◌}
use native.Mathlib.Omega.{arith}
use lib.Dec.{eqb}
use lib.ListN.{length}
use Rattle.walk.specs.Lists.{count}
use Rattle.walk.specs.Reflect.{Tells, both, either, eq?, isn't}
use Rattle.walk.specs.Finite.{from, in_from, keep, keep_in, image, any?}
use Rattle.block_memory.specs.Geometry.{header_words, table_words, structure_words}
use Rattle.block_memory.specs.Words.{word, wipe, over}
use Rattle.block_memory.specs.Partition.{numbers, structure_numbers, Partition, partitions, structure, start, end, used, child, block_at}
use Rattle.block_memory.specs.Bytes.{HasByte}
use Rattle.block_memory.specs.Sound.{Sound}
use Rattle.block_memory.proofs.Lookups.{field-none}
use Rattle.block_memory.proofs.Loops.{left}
use Rattle.block_layout.proofs.Finding.{missing}
use Rattle.block_soundness.proofs.Ranges.{has-range}
use Rattle.block_soundness.proofs.Blocks.{field-has}
use Rattle.block_soundness.proofs.Listing.{found, finds}
use Rattle.block_rules.specs.Effects.{of_child, goes_with, wipe_structures, wipe_partition, give_back, delete_child}
use Rattle.block_making.specs.Deleting.{marked, passing, stands_in, gone}
use Rattle.block_making.proofs.Listing.{behind, list-skip}
use Rattle.block_making.proofs.Marking.{agree, over-image, image-image, keep-keep, keep_same, over-keep}
use Rattle.block_making.proofs.Places.{inside?}

module _ (m : List ℕ) (d c : ℕ) where
  -- the numbers of a structure that isn't there name no block of the child; structure k was looked up as i
  pub leap : (k : ℕ) {i : ℕ} → i ≡ structure m d k → i ≡ 0 → k < 17 → (w : List ℕ)
      → over (behind (of_child m d c)) w (left 136 (8 * (k + 1))) ≡ over (behind (of_child m d c)) w (left 136 (8 * k))
  leap k e h l w =
      list-skip (of_child m d c) 136 (8 * (k + 1)) (omega arith) w (8 * k) (omega arith)
      (λ x a b.
      let same : x / 8 ≡ k = omega arith in
      missing {r = used m d x} refl _ (field-none m d x 3 (ap (structure m d) same ∙ sym e ∙ h)))

-- ---- in sound memory a partition goes exactly where it stands in a block that comes back

module _ (m : List ℕ) (s : Sound m) (d c : ℕ) (p : Partition m d) where
  -- the blocks that come back
  abbrev back : List ℕ
  back = keep (of_child m d c) numbers

  abbrev goes : ℕ → Bool
  goes t = not (eqb t 0) && goes_with m d c t

  goes? : (t : ℕ) → Tells (goes t) ((t ≢ 0) × (goes_with m d c t ≡ true))
  goes? t = both (isn't eq?) ((λ q. q), λ q. q)

  some : (n : ℕ) → of_child m d c n ≡ true → used m d n ≢ 0
  some n e = ((both {P = used m d n ≢ 0} {Q = (n ≡ c) ⊎ (child m d n ≡ c)} (isn't eq?) (either eq? eq?)).0 e).0

  stands? : (t : ℕ)
      → Tells (stands_in m d back t)
      ((n : ℕ) × ((0 < count n numbers) × (of_child m d c n ≡ true)) × (((t ≢ 0) × (start m d n ≤ 4 * t)) × (4 * t < end m d n)))
  stands? t = any? back (λ n. keep_in (of_child m d c) n numbers) (λ n. inside? (start m d n) (end m d n) t)

  same : (t : ℕ) → goes t ≡ stands_in m d back t
  same t = agree (goes t) (stands_in m d back t) to fro
    where
      to : goes t ≡ true → stands_in m d back t ≡ true
      to e =
          let (z, a) = (goes? t).0 e in
          let n = block_at m d (4 * t) in
          let r = has-range m d n (field-has m d n 3 (some n a)) in
          let b = found m s d (4 * t) p (omega (arith, r.0)) in
          (stands? t).1 (n, (in_from 128 8 n r.0 r.1, a), ((z, b.from), b.up_to))

      fro : stands_in m d back t ≡ true → goes t ≡ true
      fro e =
          let (n, (i, a), ((z, l), u)) = (stands? t).0 e in
          let b : HasByte m d n (4 * t) = record { live = record { partition = p; block = some n a }; from = l; up_to = u } in
          (goes? t).1 (z, ap (of_child m d c) (finds m s d n (4 * t) b) ∙ a)

  over-gone : over wipe_partition m (keep (goes_with m d c) (partitions m)) ≡ over (passing wipe_partition) m (gone m d back (table_words (length m)))
  unfolding partitions
  over-gone =
      let f : ℕ → Bool = λ t. not (eqb t 0) in
      let g : ℕ → Bool = stands_in m d back in
      let k : ℕ → ℕ = λ j. word m (header_words + j) in
      let places : List ℕ = from (table_words (length m)) 0 in
      ap (over wipe_partition m) (keep-keep (goes_with m d c) f (image k places) ∙ keep_same goes g same (image k places))
      ∙ over-keep wipe_partition g (sym (same 0)) m (image k places) ∙ ap (over (passing wipe_partition) m) (image-image (marked g) k places)

  pub deleted : {m₁ m₂ ts ns : List ℕ} → ns ≡ back → ts ≡ gone m d ns (table_words (length m)) → m₁ ≡ over (passing wipe_partition) m ts
      → m₂ ≡ over (λ w n. give_back w d n) m₁ ns → m₂ ≡ delete_child m d c
  unfolding delete_child
  deleted {m₁} {m₂} {ts} {ns} q t e h =
      let f : List ℕ → ℕ → List ℕ = λ w n. give_back w d n in
      let ends : ts ≡ gone m d back (table_words (length m)) = t ∙ ap (λ (l : List ℕ). gone m d l (table_words (length m))) q in
      h ∙ ap (over f m₁) q ∙ ap (λ (w : List ℕ). over f w back) (e ∙ ap (over (passing wipe_partition) m) ends ∙ sym over-gone)

-- ---- the structures of t, from where they were found

pub wiped : (m : List ℕ) (t : ℕ) {at : List ℕ} → at ≡ image (structure m t) structure_numbers
    → over (passing (λ w i. wipe w i structure_words)) m at ≡ wipe_structures m t
unfolding wipe_structures
wiped m t e =
    let f : List ℕ → ℕ → List ℕ = passing (λ w i. wipe w i structure_words) in
    ap (over f m) e ∙ sym (over-image f (structure m t) m structure_numbers)
