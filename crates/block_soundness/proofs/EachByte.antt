-- Sound memory: each byte of the starting block counts once, over all partitions: for the block that has it and isn't lent. Assumes nothing.
use mathlib.Core.Path.{◌≡◌, refl, sym, ap₂, ◌∙◌}
use mathlib.Core.List.{List}
use mathlib.Core.Logic.{◌≢◌}
use Prim.Native.Nat.{ℕ, ◌*◌, ◌≤◌, ◌<◌}
use native.Mathlib.Omega.{arith}
use native.Mathlib.Decide.{ℕ_discrete}
use lib.ListN.{length}
use Rattle.walk.specs.Lists.{sum_of}
use Rattle.block_memory.specs.Geometry.{first_byte}
use Rattle.block_memory.specs.Partition.{root, Partition, partitions, parent, number, start, end, used, child, link, place, named}
use Rattle.block_memory.specs.Bytes.{Live, Keeps}
use Rattle.block_memory.specs.Sound.{Sound}
use Rattle.block_soundness.proofs.Blocks.{used_as, block}
use Rattle.block_soundness.proofs.Child.{child-of}
use Rattle.block_soundness.proofs.Once.{once, one-block}
use Rattle.block_soundness.proofs.Records.{struct, struct_is, standing, in_bytes, desc_in, struct-held, struct_in, structure_of, not_first}
use Rattle.block_soundness.proofs.Listing.{listed, in_list, listed-once}
use Rattle.block_soundness.proofs.Sums.{sum-zero, sum_one, between_in, between-out}
use Rattle.block_soundness.proofs.Tally.{at, hands, hand_in, in-hand, Other, others, other_in, in_other, in_block, its_number}
use Rattle.block_soundness.proofs.Tally.{hand_of, desc_of, struct_of, each, desc-root, desc-other}

module _ (m : List ℕ) (s : Sound m) (x : ℕ) (low : first_byte (length m) ≤ x) (high : x < 4 * length m) where
  -- block n of e has x and isn't lent
  e : ℕ
  e = (one-block m s x low high).0

  n : ℕ
  n = (one-block m s x low high).1

  keeps : Keeps m e n x
  unfolding e n
  keeps = (one-block m s x low high).2

  only : (u o : ℕ) → Keeps m u o x → (u ≡ e) × (o ≡ n)
  unfolding e n
  only = (one-block m s x low high).3

  has : (u o : ℕ) → Live m u o → used m u o ≢ 2 → start m u o ≤ x → x < end m u o → (u ≡ e) × (o ≡ n) × (used m u o ≡ used m e n)
  has u o l z a b =
      let (i, j) = only u o (record { has = record { live = l; from = a; up_to = b }; not_lent = z }) in
      (i, j, ap₂ (λ (y w : ℕ). used m y w) i j)

  has-hand : (d o : ℕ) → Partition m d → used m d o ≡ 1 → start m d o ≤ x → x < end m d o → (d ≡ e) × (o ≡ n) × (used m d o ≡ used m e n)
  has-hand d o p u = has d o (used_as p u) (λ z. omega (arith, z, u))

  one_at : at m e n x ≡ 1
  one_at = between_in _ _ x keeps.has.from keeps.has.up_to

  pe : Partition m e
  pe = keeps.has.live.partition

  -- ---- what counts nothing

  no-hand : (d : ℕ) → Partition m d → ((o : ℕ) → d ≡ e → o ≡ n → used m e n ≡ 1 → ⊥) → hand_of m d x ≡ 0
  unfolding hand_of
  no-hand d p h = sum-zero (λ o. at m d o x) (hands m d) (λ o c.
      let u = hand_in m d o c in
      between-out _ _ x (λ a b. let (i, j, k) = has-hand d o p u a b in h o i j (sym k ∙ u)))

  no-desc : (d : ℕ) → Partition m d → (d ≢ root m → parent m d ≡ e → number m d ≡ n → used m e n ≡ 3 → ⊥) → desc_of m d x ≡ 0
  no-desc d p h = elim (ℕ_discrete d (root m)) [
    | yes q ↦ desc-root m d x q
    | no q ↦
        let w = desc_in m s d p q in
        desc-other m d x q ∙ between-out _ _ x (λ a b.
        let (i, j, k) = has _ _ w.alive w.not_lent a b in
        h q i j (sym k ∙ ((s.descriptors d p).of_other q).stands))
  ]

  no-struct : (d : ℕ) → Partition m d → ((k : ℕ) → Other m d k → standing m e n ≡ struct d k → used m e n ≡ 4 → ⊥) → struct_of m d x ≡ 0
  unfolding struct_of
  no-struct d p h = sum-zero (λ k. at m (in_block m d k) (its_number m d k) x) (others m d) (λ k c.
      let o = other_in m d k c in
      let w = struct-held m s d k p o.0 o.1 in
      between-out _ _ x (λ a b.
      let (i, j, y) = has _ _ w.1.alive w.1.not_lent a b in
      h k o (ap₂ (λ (u v : ℕ). standing m u v) (sym i) (sym j) ∙ w.1.is) (sym y ∙ w.0)))

  -- ---- t counts once for x, and no other partition does

  abbrev Total : Type 0
  Total = sum_of (λ d. each m d x) (partitions m) ≡ 1

  total : (t : ℕ) → Partition m t → each m t x ≡ 1 → ((d : ℕ) → Partition m d → d ≢ t → each m d x ≡ 0) → Total
  total t p one none =
      sum_one (λ d. each m d x) (partitions m) t (omega (arith, listed-once m s t, in_list m s t p)) one (λ d c. none d (listed m s d c))

  in_hand-one : used m e n ≡ 1 → Total
  unfolding hand_of
  in_hand-one u =
      let desc : (d : ℕ) → Partition m d → desc_of m d x ≡ 0 = λ d p. no-desc d p (λ q i j k. omega (arith, k, u)) in
      let strct : (d : ℕ) → Partition m d → struct_of m d x ≡ 0 = λ d p. no-struct d p (λ k o i j. omega (arith, j, u)) in
      let here : hand_of m e x ≡ 1 = sum_one (λ o. at m e o x) (hands m e) n (in-hand m e n u) one_at (λ o c q.
      between-out _ _ x (λ a b. q (has-hand e o pe (hand_in m e o c) a b).1)) in
      total e pe (omega (arith, here, desc e pe, strct e pe)) (λ d p q.
      omega (arith, no-hand d p (λ o i j k. q i), desc d p, strct d p))

  in_desc-one : used m e n ≡ 3 → Total
  in_desc-one u =
      let t = place m e n in
      let h = child-of m s e n pe u in
      let hand : (d : ℕ) → Partition m d → hand_of m d x ≡ 0 = λ d p. no-hand d p (λ o i j k. omega (arith, k, u)) in
      let strct : (d : ℕ) → Partition m d → struct_of m d x ≡ 0 = λ d p. no-struct d p (λ k o i j. omega (arith, j, u)) in
      let here : desc_of m t x ≡ 1 = desc-other m t x h.not_root ∙ ap₂ (λ (y z : ℕ). at m y z x) h.parent_word h.number_word ∙ one_at in
      total t h.listed (omega (arith, hand t h.listed, here, strct t h.listed)) (λ d p q.
      let desc = no-desc d p (λ z i j k. q (sym ((s.descriptors d p).of_other z).there ∙ ap₂ (λ (y w : ℕ). place m y w) i j)) in
      omega (arith, hand d p, desc, strct d p))

  in_struct-one : used m e n ≡ 4 → Total
  unfolding struct_of
  in_struct-one u =
      let l = keeps.has.live in
      let t = named m e (child m e n) in
      let k = link m e n in
      let (pt, there) = structure_of m s e n l u in
      let w = struct_in m s t k e n l u refl refl in
      let first = not_first m s w in
      let hand : (d : ℕ) → Partition m d → hand_of m d x ≡ 0 = λ d p. no-hand d p (λ o i j y. omega (arith, y, u)) in
      let desc : (d : ℕ) → Partition m d → desc_of m d x ≡ 0 = λ d p. no-desc d p (λ z i j y. omega (arith, y, u)) in
      let (i, j) = once m s (in_block m t k) e (its_number m t k) n _
      (in_bytes m s (struct-held m s t k pt there first).1 0 (omega arith)) (in_bytes m s w 0 (omega arith)) in
      let here : struct_of m t x ≡ 1 =
      sum_one (λ j. at m (in_block m t j) (its_number m t j) x) (others m t) k (in_other m t k (there, first))
      (ap₂ (λ (y z : ℕ). at m y z x) i j ∙ one_at) (λ j c q.
      let o = other_in m t j c in
      let y = struct-held m s t j pt o.0 o.1 in
      between-out _ _ x (λ a b.
      let (i, z, g) = has _ _ y.1.alive y.1.not_lent a b in
      q (struct_is (sym y.1.is ∙ ap₂ (λ (g r : ℕ). standing m g r) i z ∙ w.is)).1)) in
      total t pt (omega (arith, hand t pt, desc t pt, here)) (λ d p q.
      omega (arith, hand d p, desc d p, no-struct d p (λ j o i y. q (struct_is (sym i ∙ w.is)).0)))

  pub once-each : Total
  once-each = go (ℕ_discrete (used m e n) 1) (ℕ_discrete (used m e n) 3) (ℕ_discrete (used m e n) 4)
    where
      go : Dec (used m e n ≡ 1) → Dec (used m e n ≡ 3) → Dec (used m e n ≡ 4) → Total
      go (yes u) v w = in_hand-one u
      go (no u) (yes v) w = in_desc-one v
      go (no u) (no v) (yes w) = in_struct-one w
      go (no u) (no v) (no w) = absurd (omega (arith, (block m s keeps.has.live).form.known, keeps.has.live.block, keeps.not_lent))
