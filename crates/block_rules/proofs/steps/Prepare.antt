-- Prepare keeps memory sound: a structure of free slots is laid into a block in hand and entered in a descriptor (Laid, Entered). Assumes nothing.
use mathlib.Core.Path.{◌≡◌, refl, sym, ap, ap₂, ◌∙◌, subst}
use mathlib.Core.List.{List, [], ◌∷◌}
use mathlib.Core.Logic.{◌≢◌}
use mathlib.Core.Bool.{Bool, cond}
use Prim.Native.Nat.{ℕ, ◌+◌, ◌*◌, ◌/◌, ◌≤◌, ◌<◌}
use native.Mathlib.Omega.{arith}
use native.Mathlib.Nat.{add-zero}
use native.Mathlib.Decide.{ℕ_discrete}
use lib.Dec.{eqb}
use lib.ListN.{get_or, replicate}
use borrow.Author.Tests.{eq-eqb, ne_eqb}
use Rattle.block_memory.specs.Geometry.{word_from}
use Rattle.block_memory.specs.Words.{word}
use Rattle.block_memory.specs.Partition.{root, Partition, parent, number, structure, Has, field, end, used, child, place, named, free_structure}
use Rattle.block_memory.specs.Sound.{Sound, StandsIn, Structure, Slot, Use}
use Rattle.block_memory.proofs.Lists.{after_two}
use Rattle.block_memory.proofs.Lookups.{in_structure, structure-at, field_at}
use Rattle.block_memory.proofs.Lowest.{free-structure}
use Rattle.block_soundness.proofs.Ranges.{permitted-now, table-has}
use Rattle.block_soundness.proofs.Blocks.{used_as}
use Rattle.block_soundness.proofs.Records.{Record, desc, desc-is, words, base, Valid}
use Rattle.block_soundness.proofs.Disjoint.{low, layout}
use Rattle.block_soundness.proofs.Child.{named-own, named-child, named-partition, ChildOf, child-of}
use Rattle.block_rules.specs.Effects.{prepare_for}
use Rattle.block_rules.proofs.Stays.{Same, parent-on, number-on}
use Rattle.block_rules.proofs.Keep.{this_or, wiped-slot, named-same}
use Rattle.block_rules.proofs.Ground.{root-now}
use Rattle.block_rules.proofs.Grown.{words8}
use Rattle.block_rules.proofs.Uses.{holds-structure}
use Rattle.block_rules.proofs.Room.{above-own, clear_of}
use Rattle.block_rules.proofs.Laid.{Spare, Unused, Laid, entered, lay}
use Rattle.block_rules.proofs.Entered.{Entered, enter}

module _ (m : List ℕ) (s : Sound m) (d c b : ℕ) (p : Partition m d) (stands : c ≢ 0 → used m d c ≡ 3) (hand : used m d b ≡ 1)
    (room : 4 * (place m d b + 74) ≤ end m d b) (some : free_structure m (named m d c) ≢ 0) where
  abbrev t : ℕ
  t = named m d c

  abbrev k : ℕ
  k = free_structure m t

  abbrev i₀ : ℕ
  i₀ = place m d b

  abbrev j : ℕ
  j = t + 15 + k

  abbrev own : ℕ
  own = cond (eqb c 0) 1 0

  abbrev new : List ℕ
  new = b ∷ own ∷ replicate 72 0

  pt : Partition m t
  pt = named-partition m s d c p stands

  free : (structure m t k ≡ 0) × (1 ≤ k) × (k ≤ 16)
  free = free-structure m t some

  -- above header and table
  j-high : root m < j
  j-high = omega (arith, low m s (desc t) pt)

  -- word j is word 15+k of t's descriptor, and of no other record
  at_j : (r : Record) → Valid m r → (i : ℕ) → i < words r → base m r + i ≡ j → (r ≡ desc t) × (i ≡ 15 + k)
  at_j r v i h e =
      let f : r ≡ desc t = (layout m s).distinct r (desc t) i (15 + k) v pt h (omega (arith, free.2)) (e ∙ omega arith) in
      let g : base m r ≡ t = ap (base m) f in
      (f, omega arith)

  unused : Unused m j
  unused = record {
    late = omega (arith, j-high);
    inside = omega (arith, (layout m s).inside (desc t) pt, free.2);
    table = λ u v e. omega (arith, table-has m (permitted-now m s) u v, j-high);
    spare = λ r v i h e.
        let (f, g) = at_j r v i h e in
        subst (λ (x : Record). Spare m x i) (sym f) (k, free.1, g, free.0);
  }

  abbrev now : List ℕ
  now = entered m s d b 4 c k p hand new room j unused

  laid : Laid m now d b (4 ∷ c ∷ k ∷ []) new j
  laid = lay m s d b 4 c k p hand new room j unused

  old : Entered m now d b j
  old = enter m now s d b 4 c k new j p hand (omega arith) (omega arith) laid

  -- no partition is new
  back : {u : ℕ} → Partition now u → Partition m u
  back {u} v = laid.back v (λ e. omega (arith, v.inside, laid.grown.size, (permitted-now m s).whole, j-high))

  -- ---- the new structure

  structure-now : structure now t k ≡ i₀
  structure-now = structure-at now t k free.1 free.2 ∙ laid.index

  structure-other : (u o : ℕ) → Partition m u → ¬ ((u ≡ t) × (o ≡ k)) → structure now u o ≡ structure m u o
  structure-other u o v n = laid.structures u o v (λ x y e. let (f, g) = at_j (desc u) v (15 + o) (omega arith) e in n (desc-is f, omega arith))

  new_word : (i : ℕ) → i < 74 → word now (i₀ + i) ≡ get_or new i 0
  new_word i h = laid.filled i h (λ e.
      clear_of m s d b 74 p hand room (desc t) pt (15 + k) (omega (arith, free.2)) (omega arith) (omega arith))

  word0 : word now i₀ ≡ b
  word0 = ap (word now) (sym (add-zero i₀)) ∙ new_word 0 (omega arith)

  stands-in : (h e : ℕ) → h ≡ d → e ≡ c → StandsIn now h (word now i₀) e k
  stands-in h e x y = subst (λ (z : ℕ). StandsIn now z (word now i₀) e k) (sym x) (subst (λ (z : ℕ). StandsIn now d (word now i₀) z k) (sym y)
      (subst (λ (z : ℕ). StandsIn now d z c k) (sym word0) (record {
        use4 = laid.changed 0 (omega arith);
        linked = laid.changed 2 (omega arith);
        whose = laid.changed 1 (omega arith);
      })))

  new-structure : Structure now t k i₀
  new-structure = elim (ℕ_discrete c 0) [
    | yes e ↦
        let o : word now (i₀ + 1) ≡ 1 = new_word 1 (omega arith) ∙ ap (λ (x : Bool). cond x 1 0) (eq-eqb c 0 e) in
        record {
          own = omega (arith, o);
          of_root = λ x. o;
          in_own = λ x. stands-in t 0 (named-own m s d c e) (sym e);
          in_parent = λ x. absurd (x o);
        }
    | no e ↦
        let o : word now (i₀ + 1) ≡ 0 = new_word 1 (omega arith) ∙ ap (λ (x : Bool). cond x 1 0) (ne_eqb c 0 e) in
        let h : ChildOf m d c t = subst (ChildOf m d c) (sym (named-child m s d c e)) (child-of m s d c p (stands e)) in
        let w = words8 m now s laid.grown t pt in
        let size = laid.grown.size in
        record {
          own = omega (arith, o);
          of_root = λ x. absurd (h.not_root (x ∙ root-now m now s size));
          in_own = λ x. absurd (omega (arith, x, o));
          in_parent = λ x. stands-in (parent now t) (number now t) (parent-on m now t w ∙ h.parent_word) (number-on m now t w ∙ h.number_word);
        }
  ]

  -- a structure that wasn't there is the new one
  is-new : (P : ℕ → ℕ → Type 0) (u o : ℕ) → Partition m u → structure m u o ≡ 0 → structure now u o ≢ 0 → P t k → P u o
  is-new P u o v e z new = this_or P t k u o new (λ n. absurd (z (structure-other u o v n ∙ e)))

  -- the block that it stands in
  uses : Use now d b
  uses =
      let at : place now d b ≡ i₀ = ap word_from laid.starts in
      let cs : child now d b ≡ c = laid.changed 1 (omega arith) in
      let kid : c ≢ 0 → (g : ℕ) → g < 7 → Same m now d c g = λ h g i.
      old.kernel d c g (used_as p (stands h)) (omega (arith, stands h)) i in
      let whom : named now d (child now d b) ≡ t = ap (named now d) cs ∙ named-same m now d c (λ h. kid h 0 (omega arith)) in
      holds-structure (laid.changed 0 (omega arith)) (record {
        whose = λ h. let h' : c ≢ 0 = λ y. h (cs ∙ y) in ap (used now d) cs ∙ kid h' 3 (omega arith) ∙ stands h';
        room = omega (arith, at, laid.ends, room);
        there = ap₂ (λ (y z : ℕ). structure now y z) whom (laid.changed 2 (omega arith)) ∙ structure-now ∙ sym at;
        number_word = ap (word now) at ∙ word0;
        own_word = ap (λ (y : ℕ). word now (y + 1)) at ∙ new_word 1 (omega arith) ∙ ap (λ (y : ℕ). cond (eqb y 0) 1 0) (sym cs);
      })

  -- a slot of the new structure is free
  new-slot : (o : ℕ) → o / 8 ≡ k → Slot now t o
  new-slot o e =
      let at : structure now t (o / 8) ≡ i₀ = ap (structure now t) e ∙ structure-now in
      let zero : (g : ℕ) → g < 9 → field now t o g ≡ 0 = λ g h.
      field_at now t o g (λ z. omega (arith, z, at, above-own m s d b 74 p hand room)) ∙ ap (word now) (omega (arith, at))
      ∙ new_word (in_structure o g) (omega arith) ∙ after_two b own 72 (in_structure o g) (omega arith) in
      wiped-slot zero

  slots : (u o : ℕ) → Partition m u → Has now u o → Slot now u o
  slots u o v h = elim (ℕ_discrete (structure m u (o / 8)) 0) [
    | yes z ↦ is-new (λ x y. o / 8 ≡ y → Slot now x o) u (o / 8) v z h (new-slot o) refl
    | no z ↦ old.slots uses u o v z
  ]

  pub prepare-sound : Sound (prepare_for m d c b)
  unfolding prepare_for
  prepare-sound = record {
    header = old.header;
    table = old.table (λ i h e. absurd (omega (arith, j-high)));
    descriptors = λ u v. old.descriptors u (back v);
    entries = λ u v. old.entries u (back v);
    structures = λ u v. old.structures u (back v) (λ o z e.
        is-new (λ x y. Structure now x y (structure now x y)) u o (back v) e z (subst (Structure now t k) (sym structure-now) new-structure));
    slots = λ u o v h. slots u o (back v) h;
  }
