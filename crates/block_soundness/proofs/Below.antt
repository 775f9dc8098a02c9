-- Sound memory: the partitions whose descriptors stand in the block of a child, or in a block lent to it, are that child and its descendants. Assumes nothing.
use mathlib.Core.Path.{◌≡◌, refl, sym, ap, ap₂, ◌∙◌, subst}
use mathlib.Core.List.{List}
use mathlib.Core.Logic.{◌≢◌, ◌⊎◌, inl, inr}
use Prim.Native.Nat.{ℕ, zero, suc, ◌+◌, ◌-◌, ◌*◌, ◌<◌}
use native.Mathlib.Omega.{arith}
use native.Mathlib.Decide.{ℕ_discrete, dec_lt}
use Rattle.block_memory.specs.Partition.{root, Partition, parent, number, level, used, child, source, place}
use Rattle.block_memory.specs.Tree.{Below, self, under}
use Rattle.block_memory.specs.Bytes.{Live, HasByte, Keeps}
use Rattle.block_memory.specs.Sound.{Sound}
use Rattle.block_soundness.proofs.Blocks.{used_as, block, number-some}
use Rattle.block_soundness.proofs.Child.{ChildOf, child-of}
use Rattle.block_soundness.proofs.Once.{equal-level, deeper, once}
use Rattle.block_soundness.proofs.Records.{in_bytes, desc_in}
use Rattle.block_soundness.proofs.Up.{other, up, up_byte, same-child, above-first}

-- block n of d, lent to d's child of the number c, has the byte x
pub record LentByte (m : List ℕ) (d c n x : ℕ) : Type 0 where
  pub has : HasByte m d n x
  pub lent : used m d n ≡ 2
  pub to_child : child m d n ≡ c

module _ (m : List ℕ) (s : Sound m) where
  -- where a descriptor stands
  stands : (u : ℕ) → Partition m u → u ≢ root m → Keeps m (parent m u) (number m u) (4 * u)
  stands u p h = subst (λ (x : ℕ). Keeps m (parent m u) (number m u) (4 * x)) (omega arith) (in_bytes m s (desc_in m s u p h) 0 (omega arith))

  -- t is d's child of the number c; "these" are t and its descendants
  module _ (d c : ℕ) (pd : Partition m d) (use-c : used m d c ≡ 3) where
    abbrev t : ℕ
    t = place m d c

    kid : ChildOf m d c t
    kid = child-of m s d c pd use-c

    live-c : Live m d c
    live-c = used_as pd use-c

    -- every block of these lies in a block of d lent to t
    in_lent : {u : ℕ} → Below m t u → (o x : ℕ) → HasByte m u o x → (n : ℕ) × LentByte m d c n x
    in_lent self o x b =
        let y = up m s b.live kid.not_root in (
          source m t o,
          record {
            has = subst (λ (z : ℕ). HasByte m z (source m t o) x) kid.parent_word (up_byte m s b kid.not_root);
            lent = ap (λ (z : ℕ). used m z (source m t o)) (sym kid.parent_word) ∙ y.lent;
            to_child = ap (λ (z : ℕ). child m z (source m t o)) (sym kid.parent_word) ∙ y.to_this ∙ kid.number_word;
          },
        )
    in_lent (under u p h w) o x b = in_lent w (source m u o) x (up_byte m s b h)

    -- so their descriptors stand in c or in such a block
    pub below_byte : {u : ℕ} → Below m t u → HasByte m d c (4 * u) ⊎ ((n : ℕ) × LentByte m d c n (4 * u))
    below_byte self = inl (record { live = live-c; from = omega arith; up_to = omega (arith, ((block m s live-c).uses.use3 use-c).room) })
    below_byte (under u p h w) = inr (in_lent w (number m u) (4 * u) (stands u p h).has)

    -- a block with a byte of one lent to t is of one of these
    from-lent : (k e o n x : ℕ) → level m e ≡ level m d + suc k → HasByte m e o x → LentByte m d c n x → Below m t e
    from-lent zero e o n x h b l =
        let g = other m s e (omega arith) in
        let y = up m s b.live g in
        let (i, j) = equal-level m s (level m d) (parent m e) d (source m e o) n x (omega (arith, y.step)) refl (up_byte m s b g) l.has in
        let a : number m e ≡ number m t = sym y.to_this ∙ ap₂ (λ (u v : ℕ). child m u v) i j ∙ l.to_child ∙ sym kid.number_word in
        subst (Below m t) (sym (same-child m s e t b.live.partition kid.listed g kid.not_root (i ∙ sym kid.parent_word) a)) self
    from-lent (suc k) e o n x h b l =
        let g = other m s e (omega arith) in
        let y = up m s b.live g in
        under e b.live.partition g (from-lent k (parent m e) (source m e o) n x (omega (arith, y.step)) (up_byte m s b g) l)

    not_root : (u n : ℕ) → HasByte m d n (4 * u) → u ≢ root m
    not_root u n b e = omega (arith, above-first m s b.live, b.from, e)

    in_child : (u : ℕ) → Partition m u → HasByte m d c (4 * u) → u ≡ t
    in_child u p b =
        let h = not_root u c b in
        let (i, j) = once m s (parent m u) d (number m u) c (4 * u) (stands u p h) (record { has = b; not_lent = λ z. omega (arith, z, use-c) }) in
        same-child m s u t p kid.listed h kid.not_root (i ∙ sym kid.parent_word) (j ∙ sym kid.number_word)

    in_child-below : (u : ℕ) → Partition m u → HasByte m d c (4 * u) → Below m t u
    in_child-below u p b = subst (Below m t) (sym (in_child u p b)) self

    in_lent-below : (u n : ℕ) → Partition m u → LentByte m d c n (4 * u) → Below m t u
    in_lent-below u n p l =
        let h = not_root u n l.has in
        let k = stands u p h in
        elim (dec_lt (level m d) (level m (parent m u))) [
          | yes g ↦ under u p h (from-lent (level m (parent m u) - level m d - 1) (parent m u) (number m u) n (4 * u) (omega arith) k.has l)
          | no g ↦
              let w = level m d - level m (parent m u) in
              let (i, j) = deeper m s w (parent m u) d (number m u) n (4 * u) (omega arith) k.has l.has k.not_lent in
              absurd (k.not_lent (ap₂ (λ (x y : ℕ). used m x y) i j ∙ l.lent))
        ]

    -- a block of d that c owns in any way, with a descriptor's first byte
    pub byte_below : (u n : ℕ) → Partition m u → HasByte m d n (4 * u) → (n ≡ c) ⊎ (child m d n ≡ c) → Below m t u
    byte_below u n p b (inl e) = in_child-below u p (subst (λ (z : ℕ). HasByte m d z (4 * u)) e b)
    byte_below u n p b (inr e) = elim (ℕ_discrete (used m d n) 2) [
      | yes z ↦ in_lent-below u n p (record { has = b; lent = z; to_child = e })
      | no z ↦
          let h = not_root u n b in
          let k = stands u p h in
          let (i, j) = once m s (parent m u) d (number m u) n (4 * u) k (record { has = b; not_lent = z }) in
          let w : used m d n ≡ 3 = ap₂ (λ (x y : ℕ). used m x y) (sym i) (sym j) ∙ ((s.descriptors u p).of_other h).stands in
          absurd (omega (arith, ((block m s b.live).uses.use3 w).no_child, e, number-some m s live-c))
    ]

    -- the child's parent isn't one of them
    pub not-caller : Below m t d → ⊥
    not-caller w = go w refl
      where
        level_of : {u : ℕ} → Below m t u → level m d < level m u
        level_of self = omega (arith, kid.below)
        level_of (under u p h v) = omega (arith, level_of v, ((s.descriptors u p).of_other h).below)

        go : {u : ℕ} → Below m t u → u ≡ d → ⊥
        go v e = omega (arith, level_of v, ap (level m) e)
