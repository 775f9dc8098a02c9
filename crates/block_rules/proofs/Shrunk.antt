-- Records go and blocks are given back with them (Leaving), and all else stays: then memory is sound. The law that collect and delete share. Assumes nothing.
use mathlib.Core.Path.{◌≡◌, refl, sym, ap, ◌∙◌, subst}
use mathlib.Core.List.{List}
use mathlib.Core.Logic.{◌≢◌}
use mathlib.Core.Bool.{Bool, cond}
use Prim.Native.Nat.{ℕ, ◌+◌, ◌/◌, ◌≤◌, ◌<◌}
use native.Mathlib.Omega.{arith}
use native.Mathlib.Decide.{ℕ_discrete}
use lib.ListN.{length, get_or}
use borrow.Author.Tests.{eq-eqb, ne_eqb}
use Rattle.block_memory.specs.Words.{word}
use Rattle.block_memory.specs.Partition.{root, Partition, parent, structure, Has, field, used, child, link, place, named, holder}
use Rattle.block_memory.specs.Bytes.{Live}
use Rattle.block_memory.specs.Sound.{Sound, Entries, Structure, Structures, Slot}
use Rattle.block_memory.proofs.Lookups.{in_structure, structure-same, entry-same, field_at, field-same}
use Rattle.block_soundness.proofs.Ranges.{permitted-now, Permitted, table-has}
use Rattle.block_soundness.proofs.Blocks.{used_as, block, field-has, first_in_root, number-some}
use Rattle.block_soundness.proofs.Levels.{same_word}
use Rattle.block_soundness.proofs.Records.{Record, desc, struct, structure_of}
use Rattle.block_soundness.proofs.Up.{up}
use Rattle.block_rules.proofs.Stays.{Same, SameAll, SameButUse, Words8, Words2, Held, Named, SourceStays, Beside}
use Rattle.block_rules.proofs.Ground.{root-now, header-on, descriptor-on, structure-on, root-structure-on}
use Rattle.block_rules.proofs.SlotStays.{beside-on, slot-on, given_back, free_on}
use Rattle.block_rules.proofs.Kept.{first_piece, entries-kept}
use Rattle.block_rules.proofs.Leaving.{back_words, Back, lent, holds_descriptor, holds_structure, Leaving, back_some, hand-here, desc-here, kid-back, back?}
use Rattle.block_rules.proofs.Leaving.{parent-stays, own_block, source-block, structure-block}

-- which words of m stay in m', and what the others become
pub record Shrunk (m : List ℕ) (Gone : Record → Type 0) (m' : List ℕ) : Type 0 where
  pub size : length m' ≡ length m
  -- header and table: the table words of the partitions that go are 0
  pub low : (j : ℕ) → j < root m → ((u : ℕ) → Partition m u → Gone (desc u) → j ≢ 8 + u / 32) → word m' j ≡ word m j
  pub unlisted : (u : ℕ) → Partition m u → Gone (desc u) → word m' (8 + u / 32) ≡ 0
  -- the other descriptors: the words that name structures that go are 0
  pub in_descriptor : (u i : ℕ) → Partition m u → ¬ (Gone (desc u)) → i < 32 → ((k : ℕ) → 1 ≤ k → i ≡ 15 + k → ¬ (Gone (struct u k)))
      → word m' (u + i) ≡ word m (u + i)
  pub unnamed : (u k : ℕ) → Partition m u → ¬ (Gone (desc u)) → Gone (struct u k) → structure m' u k ≡ 0
  -- the other structures: use, child and link of the blocks given back are 1, 0, 0
  pub in_struct : (u k i : ℕ) → Partition m u → structure m u k ≢ 0 → ¬ (Gone (struct u k)) → i < 74
      → ((o : ℕ) → o / 8 ≡ k → in_structure o 3 ≤ i → i < in_structure o 3 + 3 → ¬ (Back m Gone u o))
      → word m' (structure m u k + i) ≡ word m (structure m u k + i)
  pub given : (u o : ℕ) → Partition m u → ¬ (Gone (desc u)) → Back m Gone u o → (g : ℕ) → g < 3
      → word m' (structure m u (o / 8) + (in_structure o 3 + g)) ≡ get_or back_words g 0

module _ (m m' : List ℕ) (s : Sound m) (Gone : Record → Type 0) (l : Leaving m Gone) (f : Shrunk m Gone m') where
  abbrev size : length m' ≡ length m
  size = f.size

  per : Permitted (length m)
  per = permitted-now m s

  abbrev Stays : ℕ → Type 0
  Stays u = ¬ (Gone (desc u))

  -- ---- lookups afterwards, in what stays

  words8 : (u : ℕ) → Partition m u → Stays u → Words8 m m' u
  words8 u v h i j = f.in_descriptor u i v h (omega arith) (λ k a e. absurd (omega arith))

  structure-stays : (u k : ℕ) → Partition m u → Stays u → ¬ (Gone (struct u k)) → structure m' u k ≡ structure m u k
  structure-stays u k v h a = structure-same m m' u k (λ x y.
      f.in_descriptor u (15 + k) v h (omega arith) (λ j b c g. a (subst (λ (i : ℕ). Gone (struct u i)) (omega arith) g)))

  structure-here : (u k : ℕ) → Partition m u → Stays u → structure m' u k ≢ 0 → ¬ (Gone (struct u k))
  structure-here u k v h z g = z (f.unnamed u k v h g)

  -- a slot's words; those of a block, but use, child and link; those of a block that isn't given back; those three of one that is
  pub fields : (u o g : ℕ) → Partition m u → Stays u → ¬ (Gone (struct u (o / 8))) → g < 9 → ¬ (Back m Gone u o × (3 ≤ g) × (g < 6)) → Same m m' u o g
  fields u o g v h a i c = field-same m m' u o g (structure-stays u (o / 8) v h a) (λ z.
      f.in_struct u (o / 8) (in_structure o g) v z a (omega arith) (λ n j x y b. c (subst (Back m Gone u) (omega arith) b, omega arith, omega arith)))

  pub same : (u o : ℕ) → Live m u o → Stays u → SameButUse m m' u o
  same u o b h g i a = fields u o g b.partition h (l.empty u o b h) i (λ (x, y, z). a (y, z))

  same-all : (u o : ℕ) → Live m u o → Stays u → ¬ (Back m Gone u o) → SameAll m m' u o
  same-all u o b h a g i = fields u o g b.partition h (l.empty u o b h) i (λ (x, y, z). a x)

  pub given : (u o : ℕ) → Partition m u → Stays u → Back m Gone u o → (g : ℕ) → g < 3 → field m' u o (3 + g) ≡ get_or back_words g 0
  given u o v h b g i =
      let k : Live m u o = record { partition = v; block = back_some m Gone u o b } in
      let e = structure-stays u (o / 8) v h (l.empty u o k h) in
      field_at m' u o (3 + g) (λ z. field-has m u o 3 k.block (sym e ∙ z)) ∙ ap (word m') (omega (arith, e)) ∙ f.given u o v h b g i

  alive : (u o : ℕ) → Live m u o → Stays u → used m' u o ≢ 0
  alive u o b h z = elim (back? m Gone s l u o b) [
    | yes y ↦ omega (arith, z, given u o b.partition h y 0 (omega arith))
    | no y ↦ b.block (sym (same-all u o b h y 3 (omega arith)) ∙ z)
  ]

  -- ---- partitions

  pub to : {u : ℕ} → Partition m u → Stays u → Partition m' u
  to {u} v h = record {
    some = v.some;
    inside = omega (arith, v.inside, size);
    listed = f.low (8 + u / 32) (omega (arith, table-has m per u v)) (λ w x g e. h (subst (λ (y : ℕ). Gone (desc y)) (same_word m s w u x v (omega arith)) g))
        ∙ v.listed;
  }

  table : (j : ℕ) → j < length m / 32 → word m' (8 + j) ≢ 0 → (word m' (8 + j) ≡ word m (8 + j)) × Stays (word m (8 + j))
  table j i n = go (ℕ_discrete (word m (8 + j)) 0)
    where
      go : Dec (word m (8 + j) ≡ 0) → (word m' (8 + j) ≡ word m (8 + j)) × Stays (word m (8 + j))
      go (yes z) = absurd (n (f.low (8 + j) (omega arith) (λ w v g e. omega (arith, v.some, v.listed, z, ap (word m) e)) ∙ z))
      go (no z) =
          let x = word m (8 + j) in
          let e : x / 32 ≡ j = s.table.words j i z in
          let v : Partition m x = record { some = omega arith; inside = omega arith; listed = ap (λ (y : ℕ). word m (8 + y)) e } in
          let h : Stays x = λ g. n (ap (λ (y : ℕ). word m' (8 + y)) (sym e) ∙ f.unlisted x v g) in
          (f.low (8 + j) (omega arith) (λ w y g k. h (subst (λ (u : ℕ). Gone (desc u)) (same_word m s w x y v (omega arith)) g)), h)

  pub back : {u : ℕ} → Partition m' u → Partition m u × Stays u
  back {u} v =
      let i : u < length m = omega (arith, v.inside, size) in
      let (a, b) = table (u / 32) (omega (arith, per.whole)) (λ z. omega (arith, z, v.listed, v.some)) in
      let e : word m (8 + u / 32) ≡ u = sym a ∙ v.listed in
      (record { some = v.some; inside = i; listed = e }, subst Stays e b)

  -- ---- what a block names, its source, and the pieces beside it

  words2 : (u k : ℕ) → Partition m u → structure m u k ≢ 0 → ¬ (Gone (struct u k)) → Words2 m m' (structure m u k)
  words2 u k v z a i b = f.in_struct u k i v z a (omega arith) (λ o c x y. absurd (omega arith))

  names : (u o : ℕ) → Live m u o → Stays u → ¬ (Back m Gone u o) → Named m m' u o
  names u o b h a = record {
    kid = λ x.
        let k = used_as b.partition x in
        let c = desc-here m Gone u (child m u o) x (λ g. a (kid-back m Gone s l u o b (λ z. omega (arith, z, number-some m s k)) g)) in
        (same-all u _ k h c 0 (omega arith), same-all u _ k h c 3 (omega arith));
    first = λ x.
        let k = first_piece m s u o b x in
        let c : Stays (place m u (child m u o)) = λ g. a (lent x g) in
        (same _ _ k c 6 (omega arith) (omega arith), same _ _ k c 7 (omega arith) (omega arith));
    desc = λ x.
        let v = ((block m s b).uses.use3 x).listed in
        let c : Stays (place m u o) = λ g. a (holds_descriptor x g) in
        (to v c, words8 _ v c);
    struct = λ x.
        let (v, z) = structure_of m s u o b x in
        let c : ¬ (Gone (struct (named m u (child m u o)) (link m u o))) = λ g. a (holds_structure x g) in
        (structure-stays _ _ v (λ g. c (l.whole _ _ g)) c, subst (Words2 m m') ((block m s b).uses.use4 x).there (words2 _ _ v z c));
  }

  sources : (u o : ℕ) → Live m u o → Stays u → SourceStays m m' u o
  sources u o b h r g i =
      let v = b.partition in
      same-all _ _ (up m s b r).alive (parent-stays m Gone s l u v h r) (source-block m Gone s l u v h o b r) g (omega arith)

  beside : (u o : ℕ) (b : Live m u o) → Stays u → Beside m m' u o
  beside u o b h = beside-on m m' s size b (λ n c. same u n c h)

  -- ---- the sentences

  slots : (u o : ℕ) → Partition m u → Stays u → Has m' u o → Slot m' u o
  slots u o v h i = elim (ℕ_discrete (used m u o) 0) [
    | yes z ↦
        let a = structure-here u (o / 8) v h i in
        free_on m m' s size u o v (λ w. i (structure-stays u (o / 8) v h a ∙ w)) z (λ g j. fields u o g v h a j (λ (x, y, w). back_some m Gone u o x z))
    | no z ↦
        let b : Live m u o = record { partition = v; block = z } in
        elim (back? m Gone s l u o b) [
          | yes x ↦ given_back m m' s size b (words8 u v h) (same u o b h)
              (given u o v h x 0 (omega arith)) (given u o v h x 1 (omega arith)) (given u o v h x 2 (omega arith)) (sources u o b h) (beside u o b h)
          | no x ↦ slot-on m m' s size b (words8 u v h) (same-all u o b h x) (names u o b h x) (sources u o b h) (beside u o b h)
        ]
  ]

  rt : root m' ≡ root m
  rt = root-now m m' s size

  kept : (u k : ℕ) → Partition m u → Stays u → structure m u k ≢ 0 → ¬ (Gone (struct u k)) → ¬ ((u ≡ root m) × (k ≡ 1)) → Structure m' u k (structure m u k)
  kept u k v h z a g =
      let o = (s.structures u v).others k z g in
      let held : (e : ℕ) → holder m u (structure m u k) ≡ e → Stays e → Held m m' e (word m (structure m u k)) = λ e c y.
      let (b, i) = structure-block m Gone s l u v h k e z g a c in
      (same-all e _ b y i 3 (omega arith), same-all e _ b y i 4 (omega arith), same-all e _ b y i 5 (omega arith)) in
      structure-on m m' s size u k (structure m u k) o (words8 u v h) (words2 u k v z a)
      (λ e. held u (ap (λ (b : Bool). cond b u (parent m u)) (eq-eqb _ _ e)) h)
      (λ e. held (parent m u) (ap (λ (b : Bool). cond b u (parent m u)) (ne_eqb _ _ e)) (parent-stays m Gone s l u v h (λ r. e (o.of_root r))))

  structures : (u : ℕ) → Partition m u → Stays u → Structures m' u
  structures u v h =
      let r = s.table.root_listed in
      let x = (s.structures (root m) r).of_root refl in
      let b = first_in_root m s in
      let a = l.empty (root m) 8 b l.root_stays in
      let z : structure m (root m) 1 ≢ 0 = λ w. omega (arith, w, x.at) in
      record {
        of_root = λ e. root-structure-on m m' s size (structure-stays (root m) 1 r l.root_stays a) (words2 (root m) 1 r z a)
            (alive (root m) 8 b l.root_stays) (same (root m) 8 b l.root_stays 7 (omega arith) (omega arith) ∙ x.first);
        others = λ k w g.
            let c = structure-here u k v h w in
            let e = structure-stays u k v h c in
            subst (λ (y : ℕ). Structure m' u k y) (sym e) (kept u k v h (λ y. w (e ∙ y)) c (λ (y, i). g (y ∙ sym rt, i)));
      }

  entries : (u : ℕ) → Partition m u → Stays u → Entries m' u
  entries u v h = entries-kept m m' s u v
      (λ e z. entry-same m m' u e (λ x y. f.in_descriptor u (7 + e) v h (omega arith) (λ k a i. absurd (omega arith))))
      (λ o x e y. same-all u o (used_as v x) h (hand-here m Gone u o x) 3 (omega arith) ∙ x)

  low_word : (j : ℕ) → j < 8 → word m' j ≡ word m j
  low_word j i = f.low j (omega arith) (λ u v g. omega arith)

  pub shrunk-sound : Sound m'
  shrunk-sound = record {
    header = header-on m m' s size (λ i j e. low_word i j)
        (subst (Partition m') (sym (low_word 3 (omega arith))) (to s.header.current_word l.caller_stays));
    table = record {
      words = λ j i e. let (a, b) = table j (omega (arith, size)) e in ap (λ (x : ℕ). x / 32) a ∙ s.table.words j (omega (arith, size)) (λ z. e (a ∙ z));
      root_listed = subst (Partition m') (sym rt) (to s.table.root_listed l.root_stays);
    };
    descriptors = λ u w. let (v, h) = back w in descriptor-on m m' s size u v (words8 u v h) (λ r.
        let x = ((s.descriptors u v).of_other r).parent_listed in
        let k = parent-stays m Gone s l u v h r in
        let (b, c) = own_block m Gone s l u v h r in
        record { listed = to x k; words = words8 _ x k; starts = same-all _ _ b k c 0 (omega arith); uses = same-all _ _ b k c 3 (omega arith) });
    entries = λ u w. let (v, h) = back w in entries u v h;
    structures = λ u w. let (v, h) = back w in structures u v h;
    slots = λ u o w i. let (v, h) = back w in slots u o v h i;
  }
