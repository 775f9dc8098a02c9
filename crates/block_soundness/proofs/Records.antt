-- Sound memory: the kernel's records, descriptors and structures, and the blocks that they stand in; the root's descriptor and first structure stand in none.
-- Assumes nothing.
use mathlib.Core.Path.{◌≡◌, refl, sym, ap, ap₂, ◌∙◌, subst}
use mathlib.Core.List.{List}
use mathlib.Core.Logic.{◌≢◌}
use mathlib.Core.Bool.{Bool, cond}
use Prim.Native.Nat.{ℕ, ◌+◌, ◌*◌, ◌≤◌, ◌<◌}
use native.Mathlib.Omega.{arith}
use native.Mathlib.Decide.{ℕ_discrete}
use lib.Dec.{eqb}
use borrow.Author.Tests.{eq-eqb, ne_eqb}
use Rattle.block_memory.specs.Geometry.{descriptor_words, structure_words}
use Rattle.block_memory.specs.Words.{word}
use Rattle.block_memory.specs.Partition.{root, Partition, parent, number, structure, end, used, child, link, place, named, holder}
use Rattle.block_memory.specs.Bytes.{Live, Keeps}
use Rattle.block_memory.specs.Sound.{Sound}
use Rattle.block_soundness.proofs.Blocks.{used_as, block, number-some}
use Rattle.block_soundness.proofs.Up.{above-first}
use Rattle.block_soundness.proofs.Child.{named-own, named-child, named-partition}

-- the descriptor of t, and structure k of t
pub data Record : Type 0 where
  desc : ℕ → Record
  struct : ℕ → ℕ → Record

abbrev pub words : Record → ℕ
words (desc t) = descriptor_words
words (struct t k) = structure_words

-- the partition that a record is of
abbrev pub owner : Record → ℕ
owner (desc t) = t
owner (struct t k) = t

pub desc-is : {t u : ℕ} → desc t ≡ desc u → t ≡ u
desc-is e = cc

pub struct_is : {t k u j : ℕ} → struct t k ≡ struct u j → (t ≡ u) × (k ≡ j)
struct_is e = (cc, cc)

pub not-desc : {t u k : ℕ} → struct u k ≡ desc t → ⊥
not-desc e = let z : ◌≡◌ {A = ℕ} 0 1 = cc in omega arith

pub not_struct : {t u k : ℕ} → desc t ≡ struct u k → ⊥
not_struct e = let z : ◌≡◌ {A = ℕ} 0 1 = cc in omega arith

module _ (m : List ℕ) where
  abbrev pub base : Record → ℕ
  base (desc t) = t
  base (struct t k) = structure m t k

  abbrev pub Valid : Record → Type 0
  Valid (desc t) = Partition m t
  Valid (struct t k) = Partition m t × (structure m t k ≢ 0)

  -- the record that stands in block n of h
  unfoldable pub standing : ℕ → ℕ → Record
  standing h n = cond (eqb (used m h n) 3) (desc (place m h n)) (struct (named m h (child m h n)) (link m h n))

  -- r stands in block n of h
  pub record InBlock (h n : ℕ) (r : Record) : Type 0 where
    pub alive : Live m h n
    pub not_hand : used m h n ≢ 1
    pub not_lent : used m h n ≢ 2
    pub there : place m h n ≡ base r
    pub room : 4 * (base r + words r) ≤ end m h n
    pub is : standing h n ≡ r

  pub data Home (r : Record) : Type 0 where
    first : r ≡ desc (root m) → Home r
    second : r ≡ struct (root m) 1 → Home r
    held : (h n : ℕ) → InBlock h n r → Home r

module _ (m : List ℕ) (s : Sound m) where
  standing-desc : (h n : ℕ) → used m h n ≡ 3 → standing m h n ≡ desc (place m h n)
  unfolding standing
  standing-desc h n e = ap (λ (b : Bool). cond b (desc (place m h n)) (struct (named m h (child m h n)) (link m h n))) (eq-eqb (used m h n) 3 e)

  pub standing-struct : (h n : ℕ) → used m h n ≡ 4 → standing m h n ≡ struct (named m h (child m h n)) (link m h n)
  unfolding standing
  standing-struct h n e =
      ap (λ (b : Bool). cond b (desc (place m h n)) (struct (named m h (child m h n)) (link m h n))) (ne_eqb (used m h n) 3 (λ z. omega (arith, z, e)))

  pub desc_in : (t : ℕ) → Partition m t → t ≢ root m → InBlock m (parent m t) (number m t) (desc t)
  desc_in t p h =
      let o = (s.descriptors t p).of_other h in
      let l = used_as o.parent_listed o.stands in
      let u = (block m s l).uses.use3 o.stands in
      record {
        alive = l;
        not_hand = λ z. omega (arith, z, o.stands);
        not_lent = λ z. omega (arith, z, o.stands);
        there = o.there;
        room = omega (arith, u.room, o.there);
        is = standing-desc (parent m t) (number m t) o.stands ∙ ap desc o.there;
      }

  -- structure k of t stands in block n of h
  pub struct_in : (t k h n : ℕ) → Live m h n → used m h n ≡ 4 → link m h n ≡ k → named m h (child m h n) ≡ t → InBlock m h n (struct t k)
  struct_in t k h n l e i w =
      let u = (block m s l).uses.use4 e in
      let at : structure m t k ≡ place m h n = sym (ap₂ (λ (x y : ℕ). structure m x y) w i) ∙ u.there in
      record {
        alive = l;
        not_hand = λ z. omega (arith, z, e);
        not_lent = λ z. omega (arith, z, e);
        there = sym at;
        room = omega (arith, u.room, at);
        is = standing-struct h n e ∙ ap₂ (λ (x y : ℕ). struct x y) w i;
      }

  -- .. of the partition that the block's child names
  pub structure_of : (d n : ℕ) → Live m d n → used m d n ≡ 4 → Valid m (struct (named m d (child m d n)) (link m d n))
  structure_of d n l e =
      let h = (block m s l).uses.use4 e in
      (named-partition m s d (child m d n) l.partition h.whose, λ w. omega (arith, w, h.there, above-first m s l))

  desc-home : (t : ℕ) → Partition m t → Home m (desc t)
  desc-home t p = elim (ℕ_discrete t (root m)) [ yes e ↦ first (ap desc e) | no h ↦ held (parent m t) (number m t) (desc_in t p h) ]

  -- the block that structure k of t stands in, but for the root's first
  module _ (t k : ℕ) (p : Partition m t) (z : structure m t k ≢ 0) (g : ¬ ((t ≡ root m) × (k ≡ 1))) where
    abbrev Held : ℕ → Type 0
    Held h = (used m h (word m (structure m t k)) ≡ 4) × InBlock m h (word m (structure m t k)) (struct t k)

    in-own : word m (structure m t k + 1) ≡ 1 → Held t
    in-own e =
        let o = ((s.structures t p).others k z g).in_own e in
        (o.use4, struct_in t k t _ (used_as p o.use4) o.use4 o.linked (named-own m s t _ o.whose))

    in-parent : word m (structure m t k + 1) ≢ 1 → Held (parent m t)
    in-parent e =
        let x = (s.structures t p).others k z g in
        let o = x.in_parent e in
        let d = (s.descriptors t p).of_other (λ r. e (x.of_root r)) in
        let l = used_as d.parent_listed d.stands in
        let w : named m (parent m t) (child m (parent m t) (word m (structure m t k))) ≡ t =
        ap (named m (parent m t)) o.whose ∙ named-child m s (parent m t) (number m t) (λ x. omega (arith, x, number-some m s l)) ∙ d.there in
        (o.use4, struct_in t k (parent m t) _ (used_as d.parent_listed o.use4) o.use4 o.linked w)

    pub struct-held : Held (holder m t (structure m t k))
    struct-held = elim (ℕ_discrete (word m (structure m t k + 1)) 1) [
      | yes e ↦ subst Held (sym (ap (λ (b : Bool). cond b t (parent m t)) (eq-eqb _ _ e))) (in-own e)
      | no e ↦ subst Held (sym (ap (λ (b : Bool). cond b t (parent m t)) (ne_eqb _ _ e))) (in-parent e)
    ]

  struct-home : (t k : ℕ) → Partition m t → structure m t k ≢ 0 → Home m (struct t k)
  struct-home t k p z = go (ℕ_discrete t (root m)) (ℕ_discrete k 1)
    where
      go : Dec (t ≡ root m) → Dec (k ≡ 1) → Home m (struct t k)
      go (yes e) (yes f) = second (ap₂ (λ (x y : ℕ). struct x y) e f)
      go (yes e) (no f) = held _ _ (struct-held t k p z (λ (a, b). f b)).1
      go (no e) f = held _ _ (struct-held t k p z (λ (a, b). e a)).1

  pub home : (r : Record) → Valid m r → Home m r
  home (desc t) v = desc-home t v
  home (struct t k) v = struct-home t k v.0 v.1

  -- its words are bytes of that block
  pub in_bytes : {h n : ℕ} {r : Record} → InBlock m h n r → (i : ℕ) → i < words r → Keeps m h n (4 * (base m r + i))
  in_bytes b i j = record { has = record { live = b.alive; from = omega (arith, b.there); up_to = omega (arith, b.room) }; not_lent = b.not_lent }

  pub root-first : structure m (root m) 1 ≡ root m + descriptor_words
  root-first = ((s.structures (root m) s.table.root_listed).of_root refl).at

  -- .. and lies above the kernel's own part
  pub held_high : {h n : ℕ} {r : Record} → InBlock m h n r → root m + descriptor_words + structure_words ≤ base m r
  held_high {h} {n} {r} b = omega (arith, above-first m s b.alive, b.there)

  -- the root's first structure stands in no block
  pub not_first : {h n t k : ℕ} → InBlock m h n (struct t k) → ¬ ((t ≡ root m) × (k ≡ 1))
  not_first b (x, y) = omega (arith, held_high b, root-first, ap₂ (λ (u j : ℕ). structure m u j) x y)
