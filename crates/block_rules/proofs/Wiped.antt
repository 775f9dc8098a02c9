-- Partitions wiped: which words are 0 then, and which stay. Records and where they are, are those of m. Assumes nothing.
use mathlib.Core.Path.{◌≡◌, refl, sym, ap, ◌∙◌, subst}
use mathlib.Core.List.{List}
use mathlib.Core.Logic.{◌≢◌, ◌⊎◌, inl, inr}
use mathlib.Core.Bool.{Bool, true, false, cond}
use Prim.Native.Nat.{ℕ, ◌+◌, ◌-◌, ◌/◌, ◌≤◌, ◌<◌}
use native.Mathlib.Omega.{arith}
use lib.Dec.{eqb}
use lib.ListN.{length}
use borrow.Author.Tests.{eqb-true, eqb-false}
use Rattle.walk.specs.Lists.{count}
use Rattle.walk.specs.Finite.{in_from, from-once}
use Rattle.block_memory.specs.Words.{word, wipe, over}
use Rattle.block_memory.specs.Partition.{root, Partition, structure, structure_numbers}
use Rattle.block_memory.proofs.Lookups.{structure-same}
use Rattle.block_soundness.proofs.Ranges.{table-has, structure-range}
use Rattle.block_soundness.proofs.Records.{Record, desc, struct, words, owner, base, Valid}
use Rattle.block_rules.specs.Effects.{wipe_structures, wipe_partition}
use Rattle.block_rules.proofs.Frame.{Placed}
use Rattle.block_rules.proofs.Zeroed.{Zeroed, wipe_zeroed, put_zeroed, zeroed_then, over_zeroed}

module _ (m : List ℕ) (q : Placed m) where
  -- u's descriptor has the words of m in x
  abbrev pub AsIn : List ℕ → ℕ → Type 0
  AsIn x u = (i : ℕ) → i < 32 → word x (u + i) ≡ word m (u + i)

  pub structure_in : (x : List ℕ) (u k : ℕ) → AsIn x u → structure x u k ≡ structure m u k
  structure_in x u k h = structure-same m x u k (λ a b. h (15 + k) (omega arith))

  -- ---- which words are wiped with g

  -- word j is in structure k of g
  abbrev InStruct : ℕ → ℕ → ℕ → Type 0
  InStruct g k j = (structure m g k ≢ 0) × (structure m g k ≤ j) × (j < structure m g k + 74)

  -- .. is in a structure or in the descriptor of g, or its table word
  abbrev Of : ℕ → ℕ → Type 0
  Of g j = (((k : ℕ) × (0 < count k structure_numbers) × InStruct g k j) ⊎ ((g ≤ j) × (j < g + 32))) ⊎ ((8 + g / 32 ≤ j) × (j < 8 + g / 32 + 1))

  -- every word of a record of g is; no other record has such a word, and below the records only the table has
  is_of : (r : Record) → Valid m r → (i : ℕ) → i < words r → Of (owner r) (base m r + i)
  is_of (desc u) v i h = inl (inr (omega arith, omega arith))
  is_of (struct u k) v i h = let r = structure-range m u k v.1 in inl (inl (k, in_from 16 1 k r.0 r.1, (v.1, omega arith, omega arith)))

  module _ (g : ℕ) (p : Partition m g) where
    not_of : (r : Record) → Valid m r → owner r ≢ g → (i : ℕ) → i < words r → ¬ (Of g (base m r + i))
    not_of r v n i h (inl (inl (k, c, (z, a, b)))) =
        n (ap owner (q.lay.distinct r (struct g k) i (base m r + i - structure m g k) v (p, z) h (omega arith) (omega arith)))
    not_of r v n i h (inl (inr (a, b))) = n (ap owner (q.lay.distinct r (desc g) i (base m r + i - g) v p h (omega arith) (omega arith)))
    not_of r v n i h (inr (a, b)) = omega (arith, q.lay.low r v, table-has m q.permits g p)

    not_low : (j : ℕ) → j < root m → j ≢ 8 + g / 32 → ¬ (Of g j)
    not_low j h n (inl (inl (k, c, (z, a, b)))) = omega (arith, q.lay.low (struct g k) (p, z))
    not_low j h n (inl (inr (a, b))) = omega (arith, q.lay.low (desc g) p)
    not_low j h n (inr (a, b)) = n (omega arith)

  -- ---- partitions wiped

  -- what it takes to wipe g in x
  record Fine (x : List ℕ) (g : ℕ) : Type 0 where
    size : length x ≡ length m
    listed : Partition m g
    own : AsIn x g

  -- structure k of g, which x names
  one-structure : (x : List ℕ) (g : ℕ) → Fine x g → (y : List ℕ) (k : ℕ) → length y ≡ length m
      → Zeroed y (cond (eqb (structure x g k) 0) y (wipe y (structure x g k) 74)) (InStruct g k)
  one-structure x g f y k size = go (eqb (structure x g k) 0) refl
    where
      is : structure x g k ≡ structure m g k
      is = structure_in x g k f.own

      go : (t : Bool) → eqb (structure x g k) 0 ≡ t → Zeroed y (cond t y (wipe y (structure x g k) 74)) (InStruct g k)
      go true e = record { size = refl; kept = λ j n. refl; zero = λ j (z, a, b). absurd (z (sym is ∙ eqb-true _ _ e)); still = λ j z. z }
      go false e =
          let z : structure m g k ≢ 0 = λ w. eqb-false (structure x g k) 0 e (is ∙ w) in
          let a = wipe_zeroed y (structure x g k) 74 (omega (arith, is, size, q.lay.inside (struct g k) (f.listed, z))) in
          record {
            size = a.size;
            kept = λ j n. a.kept j (λ (b, c). n (z, omega (arith, is), omega (arith, is)));
            zero = λ j (w, b, c). a.zero j (omega (arith, is), omega (arith, is));
            still = a.still;
          }

  one-wiped : (x : List ℕ) (g : ℕ) → Fine x g → Zeroed x (wipe_partition x g) (Of g)
  unfolding wipe_partition wipe_structures
  one-wiped x g f =
      let y = wipe_structures x g in
      let a : Zeroed x y (λ j. (k : ℕ) × (0 < count k structure_numbers) × InStruct g k j) =
      over_zeroed (λ w k. cond (eqb (structure x g k) 0) w (wipe w (structure x g k) 74)) (InStruct g) (λ w k. length w ≡ length m)
      (λ w k e. one-structure x g f w k e) (λ w k j n e h. (one-structure x g f w k e).size ∙ e) structure_numbers x (λ k h. f.size) (λ k. from-once 16 1 k) in
      let b = wipe_zeroed y g 32 (omega (arith, a.size, f.size, q.lay.inside (desc g) f.listed)) in
      zeroed_then (zeroed_then a b) (put_zeroed (wipe y g 32) (8 + g / 32) (omega (arith, b.size, a.size, f.size, f.listed.inside)))

  -- x is m with the partitions of gs wiped
  pub record Wiped (x gs : List ℕ) : Type 0 where
    pub size : length x ≡ length m
    pub kept : (r : Record) → Valid m r → ¬ (0 < count (owner r) gs) → (i : ℕ) → i < words r → word x (base m r + i) ≡ word m (base m r + i)
    pub low : (j : ℕ) → j < root m → ((g : ℕ) → 0 < count g gs → j ≢ 8 + g / 32) → word x j ≡ word m j
    pub unlisted : (g : ℕ) → 0 < count g gs → word x (8 + g / 32) ≡ 0
    pub zero : (r : Record) → Valid m r → 0 < count (owner r) gs → (i : ℕ) → i < words r → word x (base m r + i) ≡ 0

  pub all-wiped : (gs : List ℕ) → ((g : ℕ) → 0 < count g gs → Partition m g) → ((g : ℕ) → count g gs ≤ 1) → Wiped (over wipe_partition m gs) gs
  all-wiped gs p one =
      let a = over_zeroed wipe_partition Of Fine one-wiped (λ x u v n f h. let b = one-wiped x u f in record {
        size = b.size ∙ f.size;
        listed = h.listed;
        own = λ i j. b.kept (v + i) (not_of u f.listed (desc v) h.listed n i j) ∙ h.own i j;
      }) gs m (λ u h. record { size = refl; listed = p u h; own = λ i j. refl }) one in
      record {
        size = a.size;
        kept = λ r v n i h. a.kept _ (λ (u, c, o). not_of u (p u c) r v (λ e. n (subst (λ (w : ℕ). 0 < count w gs) (sym e) c)) i h o);
        low = λ j h n. a.kept j (λ (u, c, o). not_low u (p u c) j h (n u c) o);
        unlisted = λ g h. a.zero _ (g, h, inr (omega arith, omega arith));
        zero = λ r v c i h. a.zero _ (owner r, c, is_of r v i h);
      }
