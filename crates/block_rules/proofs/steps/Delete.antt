-- Delete keeps memory sound: the child and the partitions below it go, and the blocks of the child are given back. Assumes nothing.
use mathlib.Core.Path.{◌≡◌, refl, sym, ap, ◌∙◌, subst}
use mathlib.Core.List.{List}
use mathlib.Core.Logic.{◌≢◌, ◌⊎◌, inl, inr}
use mathlib.Core.Bool.{true}
use Prim.Native.Nat.{ℕ, ◌+◌, ◌*◌, ◌/◌, ◌<◌}
use native.Mathlib.Omega.{arith}
use native.Mathlib.Decide.{ℕ_discrete, dec_lt}
use lib.ListN.{get_or}
use Rattle.walk.specs.Lists.{count}
use Rattle.walk.specs.Reflect.{Tells, both, either, eq?, isn't}
use Rattle.walk.specs.Finite.{in_from, keep, keep_in, keep-once}
use Rattle.block_memory.specs.Words.{word, over}
use Rattle.block_memory.specs.Partition.{numbers, root, current, Partition, partitions, parent, number, structure, used, child, place, block_at}
use Rattle.block_memory.specs.Tree.{Below, self, under}
use Rattle.block_memory.specs.Bytes.{Live, HasByte}
use Rattle.block_memory.specs.Sound.{Sound}
use Rattle.block_memory.proofs.Lookups.{in_structure}
use Rattle.block_soundness.proofs.Ranges.{table-has, has-range}
use Rattle.block_soundness.proofs.Blocks.{used_as, block, field-has, number-some}
use Rattle.block_soundness.proofs.Records.{Record, desc, struct, struct_is, not_struct, owner}
use Rattle.block_soundness.proofs.Below.{LentByte, below_byte, byte_below, not-caller}
use Rattle.block_soundness.proofs.Listing.{listed, in_list, listed-once, found, finds}
use Rattle.block_soundness.proofs.Child.{named-own, named-child, ChildOf, child-of}
use Rattle.block_rules.specs.Effects.{of_child, goes_with, wipe_partition, give_back, delete_child}
use Rattle.block_rules.specs.Deleted as Specs
use Rattle.block_rules.specs.Deleted.{OfChild, Deleted}
use Rattle.block_rules.proofs.Frame.{Placed}
use Rattle.block_rules.proofs.Framed.{placed}
use Rattle.block_rules.proofs.Leaving.{back_words, Back, lent, holds_descriptor, holds_structure, Leaving, back_some, kid-back}
use Rattle.block_rules.proofs.Shrunk.{Shrunk, fields, same, given, to, back, shrunk-sound}
use Rattle.block_rules.proofs.Wiped.{Wiped, all-wiped}
use Rattle.block_rules.proofs.Given.{Given, all-given}

module _ (m : List ℕ) (s : Sound m) (d c : ℕ) (p : Partition m d) (stands : used m d c ≡ 3) (caller : current m ≡ d) where
  abbrev t : ℕ
  t = place m d c

  kid : ChildOf m d c t
  kid = child-of m s d c p stands

  q : Placed m
  q = placed m s

  live-c : Live m d c
  live-c = used_as p stands

  -- ---- the partitions that go

  of_child? : (n : ℕ) → Tells (of_child m d c n) (OfChild m d c n)
  of_child? n = both (isn't eq?) (either eq? eq?)

  -- the test that delete makes tells the child and what is below it
  goes : (u : ℕ) → Partition m u → goes_with m d c u ≡ true → Below m t u
  goes u v e =
      let n = block_at m d (4 * u) in
      let (a, b) = (of_child? n).0 e in
      let r = has-range m d n (field-has m d n 3 a) in
      byte_below m s d c p stands u n v (found m s d (4 * u) p (omega (arith, r.0))) b

  going : (u : ℕ) → Below m t u → goes_with m d c u ≡ true
  going u w = go (below_byte m s d c p stands w)
    where
      go : HasByte m d c (4 * u) ⊎ ((n : ℕ) × LentByte m d c n (4 * u)) → goes_with m d c u ≡ true
      go (inl b) =
          let e = finds m s d c (4 * u) b in
          (of_child? (block_at m d (4 * u))).1 ((λ z. omega (arith, z, stands, ap (used m d) e)), inl e)
      go (inr (n, l)) =
          let e = finds m s d n (4 * u) l.has in
          (of_child? (block_at m d (4 * u))).1 ((λ z. omega (arith, z, l.lent, ap (used m d) e)), inr (ap (child m d) e ∙ l.to_child))

  -- what is wiped
  abbrev gs : List ℕ
  gs = keep (goes_with m d c) (partitions m)

  gs-below : (u : ℕ) → 0 < count u gs → Partition m u × Below m t u
  gs-below u h = let (a, b) = (keep_in (goes_with m d c) u (partitions m)).0 h in let v = listed m s u a in (v, goes u v b)

  below-gs : (u : ℕ) → Partition m u → Below m t u → 0 < count u gs
  below-gs u v w = (keep_in (goes_with m d c) u (partitions m)).1 (in_list m s u v, going u w)

  d-stays : ¬ (Below m t d)
  d-stays = not-caller m s d c p stands

  root-stays : ¬ (Below m t (root m))
  root-stays w = go w refl
    where
      go : {u : ℕ} → Below m t u → u ≡ root m → ⊥
      go self e = kid.not_root e
      go (under u v h b) e = h e

  abbrev Gone : Record → Type 0
  Gone r = Below m t (owner r)

  leaving : Leaving m Gone
  leaving = record {
    decide = λ r v. elim (dec_lt 0 (count (owner r) gs)) [ yes g ↦ yes (gs-below (owner r) g).1 | no g ↦ no (λ b. g (below-gs (owner r) v b)) ];
    whole = λ u k g. g;
    below = under;
    root_stays = root-stays;
    caller_stays = λ g. d-stays (subst (Below m t) caller g);
    empty = λ u o l a. a;
  }

  -- ---- the blocks that are given back

  -- of the children of partitions that stay only this one goes
  only-c : (u o : ℕ) → Partition m u → ¬ (Below m t u) → used m u o ≡ 3 → Below m t (place m u o) → (u ≡ d) × (o ≡ c)
  only-c u o v w e b = go b refl
    where
      k : ChildOf m u o (place m u o)
      k = child-of m s u o v e

      go : {x : ℕ} → Below m t x → x ≡ place m u o → (u ≡ d) × (o ≡ c)
      go self f = (sym k.parent_word ∙ ap (parent m) (sym f) ∙ kid.parent_word, sym k.number_word ∙ ap (number m) (sym f) ∙ kid.number_word)
      go (under x y h z) f = absurd (w (subst (Below m t) (ap (parent m) f ∙ k.parent_word) z))

  -- what is given back is what is the child's, and the other way round
  back-child : (u o : ℕ) → Partition m u → ¬ (Below m t u) → Back m Gone u o → (u ≡ d) × OfChild m d c o
  back-child u o v w b = let (x, y) = which b in (x, subst (λ (z : ℕ). (used m z o ≢ 0) × ((o ≡ c) ⊎ (child m z o ≡ c))) x (back_some m Gone u o b, y))
    where
      which : Back m Gone u o → (u ≡ d) × ((o ≡ c) ⊎ (child m u o ≡ c))
      which (lent e g) =
          let (x, y) = only-c u (child m u o) v w ((block m s (used_as v e)).uses.use2 e).to_child g in
          (x, inr y)
      which (holds_descriptor e g) = let (x, y) = only-c u o v w e g in (x, inl y)
      which (holds_structure e g) = elim (ℕ_discrete (child m u o) 0) [
        | yes z ↦ absurd (w (subst (Below m t) (named-own m s u _ z) g))
        | no z ↦
            let (x, y) = only-c u (child m u o) v w (((block m s (used_as v e)).uses.use4 e).whose z) (subst (Below m t) (named-child m s u _ z) g) in
            (x, inr y)
      ]

  child-back : (n : ℕ) → OfChild m d c n → Back m Gone d n
  child-back n (a, inl e) = holds_descriptor (ap (used m d) e ∙ stands) (subst (λ (x : ℕ). Below m t (place m d x)) (sym e) self)
  child-back n (a, inr e) = kid-back m Gone s leaving d n (record { partition = p; block = a }) (λ z. omega (arith, z, e, number-some m s live-c))
      (subst (λ (x : ℕ). Below m t (place m d x)) (sym e) self)

  -- their numbers
  abbrev ns : List ℕ
  ns = keep (of_child m d c) numbers

  ns-child : (n : ℕ) → 0 < count n ns → OfChild m d c n
  ns-child n h = (of_child? n).0 ((keep_in (of_child m d c) n numbers).0 h).1

  child-ns : (n : ℕ) → OfChild m d c n → 0 < count n ns
  child-ns n h =
      let r = has-range m d n (field-has m d n 3 h.0) in
      (keep_in (of_child m d c) n numbers).1 (in_from 128 8 n r.0 r.1, (of_child? n).1 h)

  -- ---- the writes

  abbrev m₁ : List ℕ
  m₁ = over wipe_partition m gs

  w₁ : Wiped m q m₁ gs
  w₁ = all-wiped m q gs (λ u h. (gs-below u h).0) (λ u. keep-once (goes_with m d c) u (partitions m) (listed-once m s u))

  -- u isn't wiped
  not-gs : {u : ℕ} → ¬ (Below m t u) → ¬ (0 < count u gs)
  not-gs {u} h g = h (gs-below u g).1

  abbrev m₂ : List ℕ
  m₂ = over (λ x n. give_back x d n) m₁ ns

  w₂ : Given m q d p m₁ m₂ ns
  w₂ = all-given m q d p ns m₁ w₁.size (λ i j. w₁.kept (desc d) p (not-gs d-stays) i j) (λ n h. field-has m d n 3 (ns-child n h).0)

  table-low : (u : ℕ) → Partition m u → 8 + u / 32 < root m
  table-low u v = omega (arith, table-has m q.permits u v)

  shrunk : Shrunk m Gone m₂
  shrunk = record {
    size = w₂.size;
    low = λ j i a. w₂.low j i ∙ w₁.low j i (λ u h. let (v, b) = gs-below u h in a u v b);
    unlisted = λ u v b. w₂.low (8 + u / 32) (table-low u v) ∙ w₁.unlisted u (below-gs u v b);
    in_descriptor = λ u i v h j a. w₂.kept (desc u) v i j (λ n g (x, y, z). not_struct x) ∙ w₁.kept (desc u) v (not-gs h) i j;
    unnamed = λ u k v h b. absurd (h b);
    in_struct = λ u k i v z h j a.
        w₂.kept (struct u k) (v, z) i j (λ n g (x, y, e).
        let (f, o) = struct_is x in a n (sym o) y e (subst (λ (w : ℕ). Back m Gone w n) (sym f) (child-back n (ns-child n g))))
        ∙ w₁.kept (struct u k) (v, z) (not-gs h) i j;
    given = λ u o v h b g i.
        let (x, y) = back-child u o v h b in
        subst (λ (e : ℕ). word m₂ (structure m e (o / 8) + (in_structure o 3 + g)) ≡ get_or back_words g 0) (sym x) (w₂.given o (child-ns o y) g i);
  }

  pub delete-sound : Sound (delete_child m d c)
  unfolding delete_child
  delete-sound = shrunk-sound m m₂ s Gone leaving shrunk

  -- ---- what it does, partition by partition and block by block

  given-now : (n : ℕ) → OfChild m d c n → Specs.GivenBack m m₂ d n
  given-now n h =
      let b = child-back n h in
      let l : Live m d n = record { partition = p; block = h.0 } in
      record {
        in_hand = given m m₂ s Gone leaving shrunk d n p d-stays b 0 (omega arith);
        no_child = given m m₂ s Gone leaving shrunk d n p d-stays b 1 (omega arith);
        no_link = given m m₂ s Gone leaving shrunk d n p d-stays b 2 (omega arith);
        others = same m m₂ s Gone leaving shrunk d n l d-stays;
      }

  wiped-now : (u : ℕ) → Partition m u → Below m t u → Specs.Wiped m m₂ u
  wiped-now u v b =
      let g = below-gs u v b in
      record {
        of_table = shrunk.unlisted u v b;
        of_descriptor = λ i j. w₂.kept (desc u) v i j (λ n h (x, y, z). not_struct x) ∙ w₁.zero (desc u) v g i j;
        of_structures = λ k i z j.
            w₂.kept (struct u k) (v, z) i j (λ n h (x, y, e). d-stays (subst (Below m t) (struct_is x).0 b)) ∙ w₁.zero (struct u k) (v, z) g i j;
      }

  pub deleted : Deleted m (delete_child m d c) d c
  unfolding delete_child
  deleted = record {
    partitions = λ u. (back m m₂ s Gone leaving shrunk, λ (v, h). to m m₂ s Gone leaving shrunk v h);
    wiped = wiped-now;
    given_back = given-now;
    others = λ u n f v h a i. fields m m₂ s Gone leaving shrunk u n f v h h i (λ (b, x, y). a (back-child u n v h b));
  }
