-- Records go, and blocks are given back with them: which may go, which blocks these are, and what a block that isn't given back names. Assumes nothing.
use mathlib.Core.Path.{◌≡◌, sym, ap, ◌∙◌, subst}
use mathlib.Core.List.{List, [], ◌∷◌}
use mathlib.Core.Logic.{◌≢◌}
use Prim.Native.Nat.{ℕ, ◌/◌}
use native.Mathlib.Omega.{arith}
use native.Mathlib.Decide.{ℕ_discrete}
use Rattle.block_memory.specs.Words.{word}
use Rattle.block_memory.specs.Partition.{root, current, Partition, parent, number, structure, used, child, link, source, place, named, holder}
use Rattle.block_memory.specs.Bytes.{Live}
use Rattle.block_memory.specs.Sound.{Sound}
use Rattle.block_soundness.proofs.Blocks.{used_as, block}
use Rattle.block_soundness.proofs.Records.{Record, desc, struct, owner, standing, standing-struct, struct-held}
use Rattle.block_soundness.proofs.Up.{up}
use Rattle.block_soundness.proofs.Child.{named-child}
use Rattle.block_soundness.proofs.Records.{structure_of}
use Rattle.block_rules.proofs.Kept.{lent-child}

-- "Give back b: its words 3, 4, 5 become 1, 0, 0"
abbrev pub back_words : List ℕ
back_words = 1 ∷ 0 ∷ 0 ∷ []

module _ (m : List ℕ) (Gone : Record → Type 0) where
  -- block o of u is given back: the child that it is lent to goes, or what stands in it does
  pub data Back (u o : ℕ) : Type 0 where
    lent : used m u o ≡ 2 → Gone (desc (place m u (child m u o))) → Back u o
    holds_descriptor : used m u o ≡ 3 → Gone (desc (place m u o)) → Back u o
    holds_structure : used m u o ≡ 4 → Gone (struct (named m u (child m u o)) (link m u o)) → Back u o

  -- what may go
  pub record Leaving : Type 0 where
    pub decide : (r : Record) → Partition m (owner r) → Dec (Gone r)
    -- the structures of a partition and the partitions below it go with it
    pub whole : (u k : ℕ) → Gone (desc u) → Gone (struct u k)
    pub below : (u : ℕ) → Partition m u → u ≢ root m → Gone (desc (parent m u)) → Gone (desc u)
    pub root_stays : ¬ (Gone (desc (root m)))
    pub caller_stays : ¬ (Gone (desc (current m)))
    -- .. and else a structure goes only with all slots free
    pub empty : (u o : ℕ) → Live m u o → ¬ (Gone (desc u)) → ¬ (Gone (struct u (o / 8)))

  pub back_some : (u o : ℕ) → Back u o → used m u o ≢ 0
  back_some u o (lent x g) z = omega (arith, z, x)
  back_some u o (holds_descriptor x g) z = omega (arith, z, x)
  back_some u o (holds_structure x g) z = omega (arith, z, x)

  -- ---- blocks that aren't given back, by their use

  here : (u o : ℕ) → (used m u o ≡ 2 → ¬ (Gone (desc (place m u (child m u o))))) → (used m u o ≡ 3 → ¬ (Gone (desc (place m u o))))
      → (used m u o ≡ 4 → ¬ (Gone (struct (named m u (child m u o)) (link m u o)))) → ¬ (Back u o)
  here u o a b c (lent x g) = a x g
  here u o a b c (holds_descriptor x g) = b x g
  here u o a b c (holds_structure x g) = c x g

  pub hand-here : (u o : ℕ) → used m u o ≡ 1 → ¬ (Back u o)
  hand-here u o e = here u o (λ x g. omega (arith, e, x)) (λ x g. omega (arith, e, x)) (λ x g. omega (arith, e, x))

  lent-here : (u o : ℕ) → used m u o ≡ 2 → ¬ (Gone (desc (place m u (child m u o)))) → ¬ (Back u o)
  lent-here u o e h = here u o (λ x. h) (λ x g. omega (arith, e, x)) (λ x g. omega (arith, e, x))

  pub desc-here : (u o : ℕ) → used m u o ≡ 3 → ¬ (Gone (desc (place m u o))) → ¬ (Back u o)
  desc-here u o e h = here u o (λ x g. omega (arith, e, x)) (λ x. h) (λ x g. omega (arith, e, x))

  struct-here : (u o : ℕ) → used m u o ≡ 4 → ¬ (Gone (struct (named m u (child m u o)) (link m u o))) → ¬ (Back u o)
  struct-here u o e h = here u o (λ x g. omega (arith, e, x)) (λ x g. omega (arith, e, x)) (λ x. h)

  module _ (s : Sound m) (l : Leaving) where
    -- a block with a child that goes in word 4 is given back
    pub kid-back : (u o : ℕ) → Live m u o → child m u o ≢ 0 → Gone (desc (place m u (child m u o))) → Back u o
    kid-back u o b z g = go (ℕ_discrete (used m u o) 2) (ℕ_discrete (used m u o) 4)
      where
        go : Dec (used m u o ≡ 2) → Dec (used m u o ≡ 4) → Back u o
        go (yes e) y = lent e g
        go (no x) (yes e) = holds_structure e (subst (λ (w : ℕ). Gone (struct w (link m u o))) (sym (named-child m s u _ z)) (l.whole _ (link m u o) g))
        go (no x) (no y) = absurd (elim (ℕ_discrete (used m u o) 1) [
          | yes e ↦ z ((block m s b).uses.use1 e).no_child
          | no w ↦ z ((block m s b).uses.use3 (omega (arith, b.block, (block m s b).form.known))).no_child
        ])

    pub back? : (u o : ℕ) → Live m u o → Dec (Back u o)
    back? u o b = go (ℕ_discrete (used m u o) 2) (ℕ_discrete (used m u o) 3) (ℕ_discrete (used m u o) 4)
      where
        go : Dec (used m u o ≡ 2) → Dec (used m u o ≡ 3) → Dec (used m u o ≡ 4) → Dec (Back u o)
        go (yes e) y z = elim (l.decide (desc _) (lent-child m s u o b e)) [ yes g ↦ yes (lent e g) | no g ↦ no (lent-here u o e g) ]
        go (no x) (yes e) z = elim (l.decide (desc _) ((block m s b).uses.use3 e).listed) [
          | yes g ↦ yes (holds_descriptor e g)
          | no g ↦ no (desc-here u o e g)
        ]
        go (no x) (no y) (yes e) = elim (l.decide (struct _ (link m u o)) (structure_of m s u o b e).0) [
          | yes g ↦ yes (holds_structure e g)
          | no g ↦ no (struct-here u o e g)
        ]
        go (no x) (no y) (no z) = no (here u o (λ e g. x e) (λ e g. y e) (λ e g. z e))

    -- ---- around a partition that stays: its parent, the block that it stands in, the sources of its blocks, the blocks that its structures stand in

    module _ (u : ℕ) (v : Partition m u) (h : ¬ (Gone (desc u))) where
      pub parent-stays : u ≢ root m → ¬ (Gone (desc (parent m u)))
      parent-stays r g = h (l.below u v r g)

      pub own_block : u ≢ root m → Live m (parent m u) (number m u) × ¬ (Back (parent m u) (number m u))
      own_block r =
          let x = (s.descriptors u v).of_other r in (
            used_as x.parent_listed x.stands,
            desc-here _ _ x.stands (subst (λ (w : ℕ). ¬ (Gone (desc w))) (sym x.there) h),
          )

      pub source-block : (o : ℕ) → Live m u o → u ≢ root m → ¬ (Back (parent m u) (source m u o))
      source-block o b r =
          let x = up m s b r in
          lent-here _ _ x.lent (subst (λ (w : ℕ). ¬ (Gone (desc w))) (sym (ap (place m (parent m u)) x.to_this ∙ ((s.descriptors u v).of_other r).there)) h)

      pub structure-block : (k e : ℕ) → structure m u k ≢ 0 → ¬ ((u ≡ root m) × (k ≡ 1)) → ¬ (Gone (struct u k)) → holder m u (structure m u k) ≡ e
          → Live m e (word m (structure m u k)) × ¬ (Back e (word m (structure m u k)))
      structure-block k e z g a c =
          let x = struct-held m s u k v z g in
          let n = word m (structure m u k) in
          let four : used m e n ≡ 4 = ap (λ (w : ℕ). used m w n) (sym c) ∙ x.0 in
          let is : struct (named m e (child m e n)) (link m e n) ≡ struct u k =
          sym (standing-struct m s e n four) ∙ ap (λ (w : ℕ). standing m w n) (sym c) ∙ x.1.is in
          (subst (λ (w : ℕ). Live m w n) c x.1.alive, struct-here e n four (λ w. a (subst Gone is w)))
