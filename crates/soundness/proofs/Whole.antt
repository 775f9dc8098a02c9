-- The test of soundness decides soundness. Assumes, for the way from the sentences to the test, that a page has room for a list of ten threes.
use mathlib.Core.Path.{◌≡◌, refl, sym, ap, ◌∙◌, subst}
use mathlib.Core.List.{List}
use mathlib.Core.Bool.{true}
use mathlib.Core.Logic.{◌≢◌}
use Prim.Native.Nat.{ℕ, zero, suc, ◌+◌, ◌*◌, ◌≤◌, ◌<◌}
use native.Mathlib.Omega.{arith}
use lib.ListN.{get_or}
use borrow.Author.Tests.{eq-eqb}
use Rattle.walk.specs.Tree as Tr
use Rattle.walk.specs.Walk as W
use Rattle.memory.specs.Geometry.{page_words, page_of, threes_for, most_depth}
use Rattle.memory.specs.Words.{word}
use Rattle.memory.specs.Partition.{pages, current, list, parent, threes, table_for, table_word, mapping, above}
use Rattle.walk.specs.Reflect.{Tells, via, both}
use Rattle.memory.specs.Sound as S
use Rattle.memory.specs.Tree.{Virtual, Has, Child, InTree, root, child}
use Rattle.memory.specs.Uses.{Use, UsedBy, five_pages, Way, five, listed, in_hand}
use Rattle.memory.specs.Counts as C
use Rattle.soundness.specs.Test as T
use Rattle.memory.proofs.Geometry.{page-address}
use Rattle.soundness.proofs.Root.{root-flat, root-parent, root-own, root-listed}
use Rattle.soundness.proofs.Agree.{header?, root?, ok?, Partition}
use Rattle.soundness.proofs.Trees.{kids_to, kids_once, tree-to, to-tree, under-tree, tree-under, judged?}
use Rattle.soundness.proofs.Used.{IsWay, way_of, of_way, same_way, same_place, own-self}

module _ (b : ℕ) (m : List ℕ) where
  abbrev pub Good : Type 0
  Good = W.Good (C.children b m) (T.own b m) (T.ok b m) most_depth (pages b m) 1

  abbrev pub Spot : ℕ → Type 0
  Spot p = Tr.Spot (C.children b m) (T.own b m) 1 p

  -- ---- a use is a place in the list of a partition's pages

  use_spot : (p : ℕ) (u : Use b m p) → (x : Spot p) × (x.part ≡ u.part) × IsWay b m x.part x.at u.way
  use_spot p u =
      let (i, l, e, w) = of_way b m u.part u.way p u.used in
      (record { depth = u.depth; part = u.part; at = i; tree = tree-to b m u.tree; bound = l; is = e }, refl, w)

  pub spot_use : (p : ℕ) (x : Spot p) → (u : Use b m p) × (x.part ≡ u.part) × IsWay b m x.part x.at u.way
  spot_use p x =
      let (w, i, h) = way_of b m x.part x.at p x.bound x.is in
      (record { depth = x.depth; part = x.part; way = w; tree = to-tree b m x.tree; used = h }, refl, i)

  -- ---- from the walk to the sentences

  good-uses : Good → S.Uses b m
  good-uses g = record {
    some = λ p a c. (spot_use p (g.found p a c)).0;
    one = λ p a c u w. one p u w;
  }
    where
      one : (p : ℕ) (u w : Use b m p) → (u.part ≡ w.part) × (u.way ≡ w.way)
      one p u w =
          let (x, e, i) = use_spot p u in
          let (y, f, j) = use_spot p w in
          let (q, r) = g.same p x y in
          let k : IsWay b m x.part x.at w.way = subst (λ (a : ℕ). IsWay b m x.part a w.way) (sym r) (subst (λ (d : ℕ). IsWay b m d y.at w.way) (sym q) j) in
          (sym e ∙ q ∙ f, same_way b m x.part x.at u.way w.way i k)

  pub sound-from : S.Header b m → S.Root b m → Good → (k : ℕ) × InTree b m k (current b m) → S.Sound b m
  sound-from h r g c = record {
    header = h;
    forms = λ k d t. (part k d t).forms;
    root_as_formatted = r;
    threes = λ k d t. (part k d t).threes;
    children = λ k d t. (part k d t).children;
    depth = λ k d t. g.deep k d (tree-to b m t);
    current_in = c;
    lending = λ k d t. (part k d t).lending;
    kernel = λ k d t. (part k d t).kernel;
    uses = good-uses g;
    absent = λ k d t. (part k d t).absent;
    never_both = λ k d t. (part k d t).never_both;
  }
    where
      part : (k d : ℕ) → InTree b m k d → Partition b m d
      part k d t = (ok? b m d).0 (g.fine k d (tree-to b m t))

  -- ---- from the sentences to the walk

  pub mapped-has : (d v : ℕ) → Virtual b v → mapping b m d v ≢ 0 → Has b m d v
  unfolding table_word
  mapped-has d v h n = record { virtual = h; table = λ e. n (rw (eq-eqb (table_for b m d v) 0 e) refl) }

  -- a child does not stand at 0, which maps nothing, nor at 1, which is no page's address
  pub child-far : {d v c : ℕ} → mapping b m d 0 ≡ 0 → Child b m d v c → 1 < v
  child-far {d} {v} e a =
      let n : v ≢ 0 = λ q. a.present (ap (mapping b m d) q ∙ e) in
      omega (arith, a.has.virtual.0)

  module _ (s : S.Sound b m) where
    pub above-has : {k d v c : ℕ} → InTree b m k d → Child b m d v c → (u : ℕ) → Has b m c u → mapping b m c u ≢ 0 → Has b m d (above b m c u)
    above-has {k} {d} {v} {c} t h u a n = mapped-has d (above b m c u) ((s.forms (suc k) c (child t h)).tables u a).shadow2_word ((s.lending k d t).down v c h u a n).mapped

    -- a page mapped in the tree is a flat page
    pub flat : {k d : ℕ} → InTree b m k d → (v : ℕ) → Has b m d v → mapping b m d v ≢ 0 → 5 + 3 * threes_for b (pages b m) < page_of b (mapping b m d v)
    flat root v h n = let (l, e) = root-flat b m s.root_as_formatted v h n in omega (arith, l, e)
    flat (child {k = k} {d = d} {v = v} {c = c} t a) u h n =
        let q = (s.lending k d t).down v c a u h n in
        omega (arith, flat t (above b m c u) (above-has t a u h n) q.mapped, q.page)

    pub small : {k d : ℕ} → InTree b m k d → (v : ℕ) → Has b m d v → mapping b m d v ≢ 0 → page_of b (mapping b m d v) < pages b m
    small {k} {d} t v h n = (((s.forms k d t).tables v h).table_word n).1

    pub part-inside : {k d : ℕ} → InTree b m k d → (0 < d) × (d < pages b m)
    part-inside root = (omega arith, omega (arith, s.header.least))
    part-inside (child {k = k} {d = d} {v = v} {c = c} t a) =
        let f = flat t v a.has a.present in
        let g = small t v a.has a.present in
        (omega (arith, f, a.page), omega (arith, g, a.page))

    -- a pair that agrees with the tables of a partition of the tree names a flat page
    agreed : {k d : ℕ} → InTree b m k d → (v a : ℕ) → Virtual b v → S.Agrees b m d v a → 0 < page_of b a
    agreed {k} {d} t v a h (n, e) =
        let q : page_of b a ≡ page_of b (mapping b m d v) = ap (page_of b) (sym e) ∙ page-address b (page_of b (mapping b m d v)) in
        omega (arith, flat t v (mapped-has d v h n) n, q)

    module _ (big : 61 ≤ page_words b) where
      -- a descriptor's pages are not page 0
      own-pos : {k d : ℕ} → InTree b m k d → (j : ℕ) → j < 5 → 0 < page_of b (word b m d (2 * j + 1))
      own-pos root j h = omega (arith, root-own b m s.root_as_formatted big j h)
      own-pos (child {k = k} {d = d} {v = v} {c = c} t a) j h =
          agreed t (word b m c (2 * j)) (word b m c (2 * j + 1)) ((s.forms (suc k) c (child t a)).descriptor.pairs j h).0 (((s.children k d t).right v c a).five j h)

      listed-pos : {k d : ℕ} → InTree b m k d → (j : ℕ) → j < 3 * threes b m d → 0 < page_of b (word b m (list b m d) (2 + 2 * j))
      listed-pos root j h = omega (arith, root-listed b m s.root_as_formatted big (s.forms 0 1 root).list j h)
      listed-pos (child {k = k} {d = d} {v = v} {c = c} t a) j h =
          agreed t (word b m (list b m c) (1 + 2 * j)) (word b m (list b m c) (2 + 2 * j)) ((s.forms (suc k) c (child t a)).list.pairs j h).0 (((s.children k d t).right v c a).listed j h)

      pub five-inside : {k d : ℕ} → InTree b m k d → (j : ℕ) → j < 5 → (0 < get_or (five_pages b m d) j 0) × (get_or (five_pages b m d) j 0 < pages b m)
      five-inside t zero h = part-inside t
      five-inside {k} {d} t (suc zero) h = (own-pos t 1 h, ((s.forms k d t).descriptor.pairs 1 h).1.1)
      five-inside {k} {d} t (suc (suc zero)) h = (own-pos t 2 h, ((s.forms k d t).descriptor.pairs 2 h).1.1)
      five-inside {k} {d} t (suc (suc (suc zero))) h = (own-pos t 3 h, ((s.forms k d t).descriptor.pairs 3 h).1.1)
      five-inside {k} {d} t (suc (suc (suc (suc zero)))) h = (own-pos t 4 h, ((s.forms k d t).descriptor.pairs 4 h).1.1)
      five-inside t (suc (suc (suc (suc (suc j))))) h = absurd (omega arith)

      pub used-inside : {k d : ℕ} → InTree b m k d → (w : Way) (p : ℕ) → UsedBy b m d w p → (0 < p) × (p < pages b m)
      used-inside t (five j) p (h, e) = let i = five-inside t j h in (omega (arith, i.0, e), omega (arith, i.1, e))
      used-inside {k} {d} t (listed j) p (h, e) = (omega (arith, listed-pos t j h, e), omega (arith, ((s.forms k d t).list.pairs j h).1.1, e))
      used-inside t (in_hand v) p (h, n, x, y, e) = (omega (arith, flat t v h n, e), omega (arith, small t v h n, e))

      parents : ((c : ℕ) (u v : Tr.Spot (C.children b m) (C.children b m) 1 c) → (u.part ≡ v.part) × (u.at ≡ v.at)) × (Tr.Spot (C.children b m) (C.children b m) 1 1 → ⊥)
      parents = W.by_parent (C.children b m) (T.own b m) (T.ok b m) 1 (parent b m)
          (λ k d c t h. let (v, a) = kids_to b m d c h in ap (page_of b) ((s.children k d (to-tree b m t)).right v c a).parent ∙ page-address b d)
          (λ k d c t. kids_once b m d c (λ v a. ((s.children k d (to-tree b m t)).right v c a).stands))
          (λ k d t e. let i = part-inside (to-tree b m t) in omega (arith, i.0, e, root-parent b m s.root_as_formatted big))

      inside : (p : ℕ) (x : Spot p) → (0 < p) × (p < pages b m)
      inside p x = let (u, e, i) = spot_use p x in used-inside u.tree u.way p u.used

      same : (p : ℕ) (x y : Spot p) → (x.part ≡ y.part) × (x.at ≡ y.at)
      same p x y =
          let (u, e, i) = spot_use p x in
          let (w, f, j) = spot_use p y in
          let (l, h) = inside p x in
          let (q, r) = s.uses.one p l h u w in
          let z : x.part ≡ y.part = e ∙ q ∙ sym f in
          let k : IsWay b m x.part y.at u.way = subst (λ (a : Way). IsWay b m x.part y.at a) (sym r) (subst (λ (d : ℕ). IsWay b m d y.at w.way) (sym z) j) in
          (z, same_place b m x.part x.at y.at u.way i k)

      pub sound-good : Good
      sound-good = record {
        fine = λ k d t.
            let v = to-tree b m t in
            (ok? b m d).1 (record {
              forms = s.forms k d v;
              threes = s.threes k d v;
              children = s.children k d v;
              lending = s.lending k d v;
              kernel = s.kernel k d v;
              absent = s.absent k d v;
              never_both = s.never_both k d v;
            });
        deep = λ k d t. s.depth k d (to-tree b m t);
        one_parent = parents.0;
        no-parent = parents.1;
        inside = inside;
        found = λ p x y. (use_spot p (s.uses.some p x y)).0;
        same = same;
      }

  -- ---- the theorem

  walked? : Tells (T.judged b m (W.judge (C.children b m) (T.own b m) (T.ok b m) most_depth (W.clear (pages b m)) 1)) Good
  walked? =
      let both_ways = W.judge_iff (C.children b m) (T.own b m) (T.ok b m) (own-self b m) most_depth (pages b m) 1 in
      via (judged? b m (W.judge (C.children b m) (T.own b m) (T.ok b m) most_depth (W.clear (pages b m)) 1)) both_ways.0 both_ways.1

  parts? : Tells (T.sound_test b m) (((S.Header b m × S.Root b m) × Good) × (T.under b m most_depth (current b m) ≡ true))
  unfolding T.sound_test
  parts? = both (both (both (header? b m) (root? b m)) walked?) ((λ e. e), λ e. e)

  pub sound? : 61 ≤ page_words b → Tells (T.sound_test b m) (S.Sound b m)
  sound? big =
      via parts?
      (λ (((h, r), g), c). sound-from h r g (under-tree b m most_depth (current b m) c))
      (λ s. (((s.header, s.root_as_formatted), sound-good s big), let (k, t) = s.current_in in tree-under b m s.children most_depth t (s.depth k (current b m) t)))

  -- what the test passes is sound, for any width
  pub test-sound : T.sound_test b m ≡ true → S.Sound b m
  test-sound e = let (((h, r), g), c) = parts?.0 e in sound-from h r g (under-tree b m most_depth (current b m) c)
