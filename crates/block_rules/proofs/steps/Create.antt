-- Create keeps memory sound: a descriptor is laid into a block in hand and entered in the table (Laid, Entered). Assumes nothing.
use mathlib.Core.Path.{◌≡◌, sym, ap, ap₂, ◌∙◌, subst}
use mathlib.Core.List.{List, [], ◌∷◌}
use mathlib.Core.Logic.{◌≢◌, ◌⊎◌, inl, inr}
use Prim.Native.Nat.{ℕ, ◌+◌, ◌-◌, ◌*◌, ◌/◌, ◌≤◌, ◌<◌}
use native.Mathlib.Omega.{arith}
use native.Mathlib.Nat.{add-zero}
use native.Mathlib.Decide.{ℕ_discrete, dec_le}
use lib.ListN.{length, get_or, replicate}
use Rattle.block_memory.specs.Geometry.{table_index, word_from}
use Rattle.block_memory.specs.Words.{word}
use Rattle.block_memory.specs.Partition.{root, Partition, parent, number, level, entry, structure, Has, end, used, place}
use Rattle.block_memory.specs.Sound.{Sound, Descriptor, Slot, Use}
use Rattle.block_memory.proofs.Lists.{after-three}
use Rattle.block_memory.proofs.Lookups.{entry-at, structure-at}
use Rattle.block_soundness.proofs.Ranges.{permitted-now, entry-range, structure-range}
use Rattle.block_soundness.proofs.Levels.{room-below}
use Rattle.block_soundness.proofs.Records.{desc}
use Rattle.block_soundness.proofs.Disjoint.{low}
use Rattle.block_rules.specs.Effects.{create_in}
use Rattle.block_rules.proofs.Ground.{root-now}
use Rattle.block_rules.proofs.Uses.{holds-descriptor}
use Rattle.block_rules.proofs.Room.{above-own, in_memory, clear_of}
use Rattle.block_rules.proofs.Laid.{Unused, Laid, entered, lay}
use Rattle.block_rules.proofs.Entered.{Entered, enter}

module _ (m : List ℕ) (s : Sound m) (d b : ℕ) (p : Partition m d) (hand : used m d b ≡ 1) (room : 4 * (place m d b + 32) ≤ end m d b) where
  abbrev t : ℕ
  t = place m d b

  abbrev j : ℕ
  j = table_index t

  abbrev new : List ℕ
  new = d ∷ b ∷ (level m d + 1) ∷ replicate 29 0

  high : root m + 106 ≤ t
  high = above-own m s d b 32 p hand room

  inside : t + 32 ≤ length m
  inside = in_memory m s d b 32 p hand room

  j-low : j < root m
  j-low = omega (arith, inside, (permitted-now m s).whole)

  -- no partition has t's table word
  fresh : (u : ℕ) → Partition m u → u / 32 ≢ t / 32
  fresh u v e = elim (dec_le u t) [
    | yes h ↦ clear_of m s d b 32 p hand room (desc u) v (t - u) (omega arith) (omega arith) (omega arith)
    | no h ↦ clear_of m s d b 32 p hand room (desc u) v 0 (omega arith) (omega arith) (omega arith)
  ]

  unused : Unused m j
  unused = record {
    late = omega arith;
    inside = omega (arith, j-low, high, inside);
    table = λ u v e. fresh u v (omega arith);
    spare = λ r v i h e. absurd (omega (arith, low m s r v, j-low));
  }

  abbrev now : List ℕ
  now = entered m s d b 3 0 0 p hand new room j unused

  laid : Laid m now d b (3 ∷ 0 ∷ 0 ∷ []) new j
  laid = lay m s d b 3 0 0 p hand new room j unused

  old : Entered m now d b j
  old = enter m now s d b 3 0 0 new j p hand (omega arith) (omega arith) laid

  -- ---- the new partition

  listed : Partition now t
  listed = record { some = omega (arith, high); inside = omega (arith, inside, laid.grown.size); listed = laid.index }

  back : {u : ℕ} → Partition now u → Partition m u ⊎ (u ≡ t)
  back {u} v = elim (ℕ_discrete (table_index u) j) [
    | yes e ↦ inr (sym v.listed ∙ ap (word now) e ∙ laid.index)
    | no e ↦ inl (laid.back v e)
  ]

  new_word : (i : ℕ) → i < 32 → word now (t + i) ≡ get_or new i 0
  new_word i h = laid.filled i h (omega (arith, high, j-low))

  new-rest : (i : ℕ) → 3 ≤ i → i < 32 → word now (t + i) ≡ 0
  new-rest i g h = new_word i h ∙ after-three d b (level m d + 1) 29 i g

  parent-t : parent now t ≡ d
  parent-t = ap (word now) (sym (add-zero t)) ∙ new_word 0 (omega arith)

  no-entry : (e : ℕ) → entry now t e ≡ 0
  no-entry e = elim (ℕ_discrete (entry now t e) 0) [
    | yes z ↦ z
    | no z ↦ let (x, y) = entry-range now t e z in
        entry-at now t e x (omega arith) ∙ ap (word now) (omega arith) ∙ new-rest (7 + e) (omega arith) (omega arith)
  ]

  no-structure : (k : ℕ) → structure now t k ≡ 0
  no-structure k = elim (ℕ_discrete (structure now t k) 0) [
    | yes z ↦ z
    | no z ↦ let (x, y) = structure-range now t k z in
        structure-at now t k x (omega arith) ∙ ap (word now) (omega arith) ∙ new-rest (15 + k) (omega arith) (omega arith)
  ]

  t-root : t ≢ root now
  t-root e = omega (arith, e, root-now m now s laid.grown.size, high)

  at : place now d b ≡ t
  at = ap word_from laid.starts

  new-descriptor : Descriptor now t
  new-descriptor = record {
    rest = λ i x y. new-rest i x (omega arith);
    of_root = λ e. absurd (t-root e);
    of_other = λ e. record {
      parent_listed = subst (Partition now) (sym parent-t) (laid.grown.to p);
      stands = ap₂ (λ (x y : ℕ). used now x y) parent-t (new_word 1 (omega arith)) ∙ laid.changed 0 (omega arith);
      there = ap₂ (λ (x y : ℕ). place now x y) parent-t (new_word 1 (omega arith)) ∙ at;
      below = new_word 2 (omega arith) ∙ ap (λ (x : ℕ). x + 1) (sym (ap (level now) parent-t ∙ laid.grown.words d 2 p (omega arith)));
      few = omega (arith, new_word 2 (omega arith), laid.grown.size, room-below m s d (t / 32) p (omega (arith, inside, (permitted-now m s).whole)) fresh);
    };
  }

  -- the block that it stands in
  uses : Use now d b
  uses = holds-descriptor (laid.changed 0 (omega arith)) (record {
    no_child = laid.changed 1 (omega arith);
    no_link = laid.changed 2 (omega arith);
    room = omega (arith, at, laid.ends, room);
    listed = subst (Partition now) (sym at) listed;
    parent_word = ap (parent now) at ∙ parent-t;
    number_word = ap (number now) at ∙ new_word 1 (omega arith);
  })

  -- ---- all of it

  -- a structure that wasn't there isn't there now
  same_none : (u k : ℕ) → Partition m u → structure m u k ≡ 0 → structure now u k ≡ 0
  same_none u k v z = laid.structures u k v (λ x y e. omega (arith, low m s (desc u) v, j-low)) ∙ z

  each : {P : ℕ → Type 0} → ((u : ℕ) → Partition m u → P u) → P t → (u : ℕ) → Partition now u → P u
  each {P} old new u v = go (back v)
    where
      go : Partition m u ⊎ (u ≡ t) → P u
      go (inl x) = old u x
      go (inr e) = subst P (sym e) new

  pub create-sound : Sound (create_in m d b)
  unfolding create_in
  create-sound = record {
    header = old.header;
    table = old.table (λ i h e. omega arith);
    descriptors = each old.descriptors new-descriptor;
    entries = each old.entries (record { in_hand = λ e z. absurd (z (no-entry e)); once = λ e f z. absurd (z (no-entry e)) });
    structures = each (λ u v. old.structures u v (λ k z e. absurd (z (same_none u k v e))))
        (record { of_root = λ e. absurd (t-root e); others = λ k z. absurd (z (no-structure k)) });
    slots = λ u o v h. each {P = λ x. Has now x o → Slot now x o}
        (λ x y k. old.slots uses x o y (λ z. k (same_none x (o / 8) y z))) (λ k. absurd (k (no-structure (o / 8)))) u v h;
  }
