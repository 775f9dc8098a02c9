-- Sound memory: levels, and the way up. A block of another partition than the root lies in one that the parent lends to it. Assumes nothing.
use mathlib.Core.Path.{◌≡◌, refl, sym, ap, ap₂, ◌∙◌}
use mathlib.Core.List.{List}
use mathlib.Core.Logic.{◌≢◌}
use Prim.Native.Nat.{ℕ, zero, suc, ◌+◌, ◌≤◌, ◌<◌}
use native.Mathlib.Omega.{arith}
use native.Mathlib.Decide.{ℕ_discrete}
use lib.ListN.{length}
use Rattle.block_memory.specs.Geometry.{first_byte}
use Rattle.block_memory.specs.Partition.{root, Partition, parent, number, level, start, end, used, child, source, place}
use Rattle.block_memory.specs.Bytes.{Live, HasByte}
use Rattle.block_memory.specs.Sound.{Sound}
use Rattle.block_soundness.proofs.Sources.{source-start, source-end, root-start}
use Rattle.block_soundness.proofs.Blocks.{used_as, block, starts_in, ends_in}

module _ (m : List ℕ) (s : Sound m) where
  pub root-level : (d : ℕ) → d ≡ root m → level m d ≡ 0
  root-level d e = ap (λ (x : ℕ). level m x) e ∙ ((s.descriptors (root m) s.table.root_listed).of_root refl).top

  pub other : (d : ℕ) → 0 < level m d → d ≢ root m
  other d h e = omega (arith, root-level d e)

  pub top-root : (d : ℕ) → Partition m d → level m d ≡ 0 → d ≡ root m
  top-root d p z = elim (ℕ_discrete d (root m)) [ yes e ↦ e | no n ↦ absurd (omega (arith, ((s.descriptors d p).of_other n).below)) ]

  -- ---- the source of a block

  pub record Up (d n : ℕ) : Type 0 where
    pub alive : Live m (parent m d) (source m d n)
    pub lent : used m (parent m d) (source m d n) ≡ 2
    pub to_this : child m (parent m d) (source m d n) ≡ number m d
    pub low : start m (parent m d) (source m d n) ≤ start m d n
    pub high : end m d n ≤ end m (parent m d) (source m d n)
    pub step : level m d ≡ level m (parent m d) + 1

  pub up : {d n : ℕ} → Live m d n → d ≢ root m → Up d n
  up {d} {n} l h =
      let o = (block m s l).sources.of_other h in
      let b = (s.descriptors d l.partition).of_other h in
      record {
        alive = used_as b.parent_listed o.lent;
        lent = o.lent;
        to_this = o.to_this;
        low = omega (arith, starts_in m s l, source-start m d n h);
        high = omega (arith, ends_in m s l, source-end m d n h);
        step = b.below;
      }

  pub up_byte : {d n x : ℕ} (b : HasByte m d n x) → d ≢ root m → HasByte m (parent m d) (source m d n) x
  up_byte b h = let u = up b.live h in record { live = u.alive; from = omega (arith, b.from, u.low); up_to = omega (arith, b.up_to, u.high) }

  -- a child is found by its number
  pub same-child : (d e : ℕ) → Partition m d → Partition m e → d ≢ root m → e ≢ root m → parent m d ≡ parent m e → number m d ≡ number m e → d ≡ e
  same-child d e p q h k a b =
      sym ((s.descriptors d p).of_other h).there ∙ ap₂ (λ (x y : ℕ). place m x y) a b ∙ ((s.descriptors e q).of_other k).there

  -- .. and by a block that it came from
  pub one-child : (d e n o : ℕ) → Live m d n → Live m e o → d ≢ root m → e ≢ root m → parent m d ≡ parent m e → source m d n ≡ source m e o → d ≡ e
  one-child d e n o l k h g p q =
      same-child d e l.partition k.partition h g p (sym (up l h).to_this ∙ ap₂ (λ (x y : ℕ). child m x y) p q ∙ (up k g).to_this)

  -- ---- every block lies in the starting block

  floor : (k d n : ℕ) → level m d ≡ k → Live m d n → (first_byte (length m) ≤ start m d n)
  floor zero d n e l = let p = top-root d l.partition e in omega (arith, starts_in m s l, root-start m d n p)
  floor (suc k) d n e l =
      let u = up l (other d (omega arith)) in
      omega (arith, u.low, floor k (parent m d) (source m d n) (omega (arith, u.step)) u.alive)

  pub above-first : {d n : ℕ} → Live m d n → first_byte (length m) ≤ start m d n
  above-first {d} {n} l = floor (level m d) d n refl l
