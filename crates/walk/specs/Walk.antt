-- Judging a tree of partitions by one walk that marks each page, against what it is to mean. `kids d` lists the children of d, `own d` the pages
-- that d uses, `ok d` tests what d has to meet by itself. Assumes nothing of the three but, where it says so, that a partition uses its own page.
use Rattle.std.proofs.Math.Path.{◌≡◌, refl, sym, ap}
use Rattle.std.proofs.Common.{◌∙◌, arith, length-append}
use Rattle.std.specs.Prelude.{List, ◌++◌, Bool, ◌≢◌, ◌↔◌, length, get_or, replicate}
use Rattle.std.proofs.Math.Bool.{true, false}
use Rattle.std.proofs.Math.Option.{Option, none, some}
use Prim.Native.Nat.{ℕ, zero, suc, ◌+◌, ◌-◌, ◌≤◌, ◌<◌}
use Rattle.std.proofs.Math.Decide.{dec_lt}
use Rattle.std.proofs.lemmas.List.{length-replicate, get_or-replicate}
use Rattle.std.proofs.Math.ListN.{get_or-eq_default}
use Rattle.walk.specs.Lists.{hit, hit_same, count, count_at, same_at, flat, flat-flat, flat-many, sum_of, sum-add, sum_ext, length-flat, exactly}
use Rattle.walk.specs.Marks.{Seen, and_then, and_then-is, and_then_ext, each, marks, marked, can_mark, each_in, each-marks, marks_append}
use Rattle.walk.specs.Tree.{InTree, top, under, Spot, walk, once-below, walk-once, spot-count, count-spot, spot-same, same_spot, spot_of, spots_one, spots_two}

-- each page 1 .. n - 1 has its mark
abbrev pub Full : ℕ → Seen → Type 0
Full n s = (p : ℕ) → 0 < p → p < n → get_or s p 0 ≡ 1

-- no page has a mark
abbrev pub clear : ℕ → Seen
clear n = replicate n 0

clear-length : (n : ℕ) → length (clear n) ≡ n
clear-length n = length-replicate n _

pub zeros-at : (n p : ℕ) → get_or (clear n) p 0 ≡ 0
zeros-at n p = elim (dec_lt p n) [ yes h ↦ get_or-replicate n p 0 0 h | no h ↦ get_or-eq_default (clear n) 0 (omega (arith, clear-length n)) ]

module _ (kids own : ℕ → List ℕ) (ok : ℕ → Bool) where
  -- a partition, by the judge of a child: its own test, its pages, its children in order
  unfoldable pub one : (Seen → ℕ → Option Seen) → Seen → ℕ → Option Seen
  one child s d = elim (ok d) [ true ↦ and_then (marks s (own d)) (λ t. each child t (kids d)) | false ↦ none ]

  -- a child with k levels left for it and what is below it: none left, no child
  unfoldable pub child : ℕ → Seen → ℕ → Option Seen
  child zero s d = none
  child (suc k) s d = one (child k) s d

  -- a partition that may have k levels below it; and a list of children
  abbrev pub judge : ℕ → Seen → ℕ → Option Seen
  judge k s d = child (suc k) s d

  abbrev pub judges : ℕ → Seen → List ℕ → Option Seen
  judges k s cs = each (child k) s cs

  one_ok : (f : Seen → ℕ → Option Seen) (s : Seen) (d : ℕ) → ok d ≡ true → one f s d ≡ and_then (marks s (own d)) (λ t. each f t (kids d))
  unfolding one
  one_ok f s d e = rw (e, one)

  pub one-is : (f : Seen → ℕ → Option Seen) (s : Seen) (d : ℕ) (u : Seen) → one f s d ≡ some u → (ok d ≡ true) × ((t : Seen) × (marks s (own d) ≡ some t) × (each f t (kids d) ≡ some u))
  unfolding one
  one-is f s d u e = go (ok d) refl
    where
      go : (b : Bool) → ok d ≡ b → (ok d ≡ true) × ((t : Seen) × (marks s (own d) ≡ some t) × (each f t (kids d) ≡ some u))
      go true q = (q, and_then-is (marks s (own d)) (λ t. each f t (kids d)) u (sym (one_ok f s d q) ∙ e))
      go false q =
          let m : one f s d ≡ none = rw (q, one) in
          let z : ◌≡◌ {A = ℕ} 0 1 = cc in
          absurd (omega arith)

  -- for code that takes the steps one by one
  pub judge-bad : (k : ℕ) (s : Seen) (d : ℕ) → ok d ≡ false → judge k s d ≡ none
  unfolding child one
  judge-bad k s d e = rw (e, one)

  pub judge-stop : (k : ℕ) (s : Seen) (d : ℕ) → ok d ≡ true → marks s (own d) ≡ none → judge k s d ≡ none
  unfolding child and_then
  judge-stop k s d e m = one_ok (child k) s d e ∙ ap (λ (o : Option Seen). and_then o (λ t. each (child k) t (kids d))) m

  pub judge-go : (k : ℕ) (s : Seen) (d : ℕ) (t : Seen) → ok d ≡ true → marks s (own d) ≡ some t → judge k s d ≡ judges k t (kids d)
  unfolding child and_then
  judge-go k s d t e m = one_ok (child k) s d e ∙ ap (λ (o : Option Seen). and_then o (λ u. each (child k) u (kids d))) m

  pub child-none : (k : ℕ) (s : Seen) (d : ℕ) → k ≡ 0 → child k s d ≡ none
  unfolding child
  child-none k s d e = rw e refl

  pub child-next : (k : ℕ) (s : Seen) (d : ℕ) → 0 < k → child k s d ≡ judge (k - 1) s d
  child-next k s d h = let e : k ≡ suc (k - 1) = omega arith in ap (λ (j : ℕ). child j s d) e

  -- every partition met passes its test, and the levels suffice
  abbrev pub Fine : ℕ → ℕ → Type 0
  Fine zero d = ⊥
  Fine (suc k) d = (ok d ≡ true) × ((c : ℕ) → 0 < count c (kids d) → Fine k c)

  child-fine : (k : ℕ) (s : Seen) (d : ℕ) (u : Seen) → child k s d ≡ some u → Fine k d
  unfolding child
  child-fine zero s d u e = let z : ◌≡◌ {A = ℕ} 0 1 = cc in absurd (omega arith)
  child-fine (suc k) s d u e =
      let (o, (t, m, r)) = one-is (child k) s d u e in
      (o, each_in (child k) (Fine k) (λ v w c. child-fine k v c w) t (kids d) u r)

  unfoldable pub pages : ℕ → ℕ → List ℕ
  pages k d = flat own (walk kids k d)

  child-marks : (k : ℕ) (s : Seen) (d : ℕ) → Fine k d → child k s d ≡ marks s (pages k d)
  unfolding child pages walk flat
  child-marks zero s d f = absurd f
  child-marks (suc k) s d f =
      let e : flat own (flat (walk kids k) (kids d)) ≡ flat (λ c. pages k c) (kids d) = flat-flat (walk kids k) own (kids d) in
      one_ok (child k) s d f.0
      ∙ and_then_ext (marks s (own d)) _ _ (λ t. each-marks (child k) (λ c. pages k c) (kids d) (λ c h v. child-marks k v c (f.1 c h)) t ∙ ap (marks t) (sym e))
      ∙ sym (marks_append s (own d) (flat own (flat (walk kids k) (kids d))))

  -- ---- what it is to mean

  abbrev pub Use : ℕ → ℕ → Type 0
  Use r p = Spot kids own r p

  abbrev pub Place : ℕ → ℕ → Type 0
  Place r c = Spot kids kids r c

  -- m: how deep the tree may be. n: the pages are 1 .. n - 1. r: the root
  pub record Good (m n r : ℕ) : Type 0 where
    pub fine : (k d : ℕ) → InTree kids r k d → ok d ≡ true
    pub deep : (k d : ℕ) → InTree kids r k d → k ≤ m
    pub one_parent : (c : ℕ) (u v : Place r c) → (u.part ≡ v.part) × (u.at ≡ v.at)
    pub no-parent : Place r r → ⊥
    pub inside : (p : ℕ) → Use r p → (0 < p) × (p < n)
    pub found : (p : ℕ) → 0 < p → p < n → Use r p
    pub same : (p : ℕ) (u v : Use r p) → (u.part ≡ v.part) × (u.at ≡ v.at)

  -- ---- the two agree

  fine-tree : (r k : ℕ) → Fine k r → {n d : ℕ} → InTree kids r n d → (j : ℕ) × (k ≡ n + suc j) × Fine (suc j) d
  fine-tree r zero f top = absurd f
  fine-tree r (suc k) f top = (k, omega arith, f)
  fine-tree r k f (under {k = n} {d = d} {c = c} t h) = let (j, e, g) = fine-tree r k f t in down j e (g.1 c h)
    where
      down : (j : ℕ) → k ≡ n + suc j → Fine j c → (i : ℕ) × (k ≡ suc n + suc i) × Fine (suc i) c
      down zero e g = absurd g
      down (suc j) e g = (j, omega arith, g)

  tree-fine : (r k : ℕ) → ((n d : ℕ) → InTree kids r n d → (ok d ≡ true) × (n < k)) → (j n d : ℕ) → k ≡ n + j → InTree kids r n d → Fine j d
  tree-fine r k h zero n d e t = absurd (omega (arith, (h n d t).1))
  tree-fine r k h (suc j) n d e t = ((h n d t).0, (λ c b. tree-fine r k h j (suc n) c (omega arith) (under t b)))

  -- in between: by the pages of the walk, counted
  pub record Core (m n r : ℕ) : Type 0 where
    pub fine : Fine (suc m) r
    pub ones : (p : ℕ) → 0 < p → p < n → count p (pages (suc m) r) ≡ 1
    pub inside : (p : ℕ) → 0 < count p (pages (suc m) r) → (0 < p) × (p < n)

  judge_core : (m n r : ℕ) (s : Seen) → judge m (clear n) r ≡ some s → Full n s → Core m n r
  judge_core m n r s e full =
      let f = child-fine (suc m) (clear n) r s e in
      let k = marked (clear n) (pages (suc m) r) s (sym (child-marks (suc m) (clear n) r f) ∙ e) in
      record {
        fine = f;
        ones = λ p a b. omega (arith, k.after p, full p a b, zeros-at n p);
        inside = λ p h. omega (arith, k.inside p h, clear-length n);
      }

  core_judge : (m n r : ℕ) → Core m n r → (s : Seen) × (judge m (clear n) r ≡ some s) × Full n s
  core_judge m n r c =
      let (s, e) = can_mark (clear n) (pages (suc m) r) (λ p h. omega (arith, c.inside p h, clear-length n)) (λ p h. omega (arith, zeros-at n p, c.ones p (c.inside p h).0 (c.inside p h).1)) in
      let k = marked (clear n) (pages (suc m) r) s e in
      (s, child-marks (suc m) (clear n) r c.fine ∙ e, (λ p a b. omega (arith, k.after p, zeros-at n p, c.ones p a b)))

  module _ (m n r : ℕ) (g : Good m n r) where
    good-deep : (j d : ℕ) → InTree kids r j d → j < suc m
    good-deep j d t = omega (arith, g.deep j d t)

    good-once : (x : ℕ) → count x (walk kids (suc m) r) ≤ 1
    good-once = walk-once kids r
        (λ j d c t. spots_one kids kids r c (g.one_parent c) j d t)
        (λ i j d e c. spots_two kids kids r c (g.one_parent c) i j d e)
        (λ j d t h. g.no-parent (spot_of kids kids r r j d t h).0)
        (suc m)

    pub good_core : Core m n r
    unfolding pages
    good_core =
        record {
          fine = tree-fine r (suc m) (λ j d t. (g.fine j d t, good-deep j d t)) (suc m) 0 r (omega arith) top;
          ones = λ p a b. omega (arith, spot-count kids own (suc m) r good-deep p (g.found p a b), same_spot kids own (suc m) r good-deep p good-once (g.same p));
          inside = λ p h. g.inside p (count-spot kids own (suc m) r good-deep p h);
        }

  pub core_good : (self : (d : ℕ) → 0 < count d (own d)) (m n r : ℕ) → Core m n r → Good m n r
  unfolding pages
  core_good self m n r c =
      record {
        fine = λ k d t. (fine-tree r (suc m) c.fine t).2.0;
        deep = λ k d t. omega (arith, (fine-tree r (suc m) c.fine t).1);
        one_parent = λ x u v. spot-same kids kids (suc m) r deep x (omega (arith, below x)) u v;
        no-parent = λ u. omega (arith, below r, hit_same r, spot-count kids kids (suc m) r deep r u);
        inside = λ p u. c.inside p (spot-count kids own (suc m) r deep p u);
        found = λ p a b. count-spot kids own (suc m) r deep p (omega (arith, c.ones p a b));
        same = λ p u v. let h = c.inside p (spot-count kids own (suc m) r deep p u) in spot-same kids own (suc m) r deep p (omega (arith, c.ones p h.0 h.1)) u v;
      }
    where
      deep : (j d : ℕ) → InTree kids r j d → j < suc m
      deep j d t = omega (arith, (fine-tree r (suc m) c.fine t).1)

      once : (x : ℕ) → count x (walk kids (suc m) r) ≤ 1
      once x =
          let a : count x (walk kids (suc m) r) ≤ count x (flat own (walk kids (suc m) r)) = flat-many own x (walk kids (suc m) r) x (self x) in
          elim (dec_lt 0 (count x (flat own (walk kids (suc m) r)))) [
            | yes h ↦ let i = c.inside x h in omega (arith, c.ones x i.0 i.1)
            | no h ↦ omega arith
          ]

      below : (x : ℕ) → hit x r + count x (flat kids (walk kids (suc m) r)) ≤ 1
      below = once-below kids (suc m) r once deep

  -- the theorem
  pub judge-good : ((d : ℕ) → 0 < count d (own d)) → (m n r : ℕ) (s : Seen) → judge m (clear n) r ≡ some s → Full n s → Good m n r
  judge-good self m n r s e f = core_good self m n r (judge_core m n r s e f)

  pub good-judge : (m n r : ℕ) → Good m n r → (s : Seen) × (judge m (clear n) r ≡ some s) × Full n s
  good-judge m n r g = core_judge m n r (good_core m n r g)

  pub judge_iff : ((d : ℕ) → 0 < count d (own d)) → (m n r : ℕ) → ((s : Seen) × (judge m (clear n) r ≡ some s) × Full n s) ↔ Good m n r
  judge_iff self m n r = ((λ (s, e, f). judge-good self m n r s e f), good-judge m n r)

  -- where each partition notes its parent, the two clauses on places come to three simple ones
  pub by_parent : (r : ℕ) (up : ℕ → ℕ)
      → ((k d c : ℕ) → InTree kids r k d → 0 < count c (kids d) → up c ≡ d)
      → ((k d c : ℕ) → InTree kids r k d → count c (kids d) ≤ 1)
      → ((k d : ℕ) → InTree kids r k d → up r ≢ d)
      → ((c : ℕ) (u v : Place r c) → (u.part ≡ v.part) × (u.at ≡ v.at)) × (Place r r → ⊥)
  by_parent r up led single rootless = (both, λ u. rootless u.depth u.part u.tree (from r u))
    where
      from : (c : ℕ) (u : Place r c) → up c ≡ u.part
      from c u = led u.depth u.part c u.tree (count_at c (kids u.part) u.at u.bound u.is)

      both : (c : ℕ) (u v : Place r c) → (u.part ≡ v.part) × (u.at ≡ v.at)
      both c u v =
          let e : u.part ≡ v.part = sym (from c u) ∙ from c v in
          (e, same_at c (kids u.part) (single u.depth u.part c u.tree) u.at v.at u.bound (rw e v.bound) u.is (rw e v.is))

  -- ---- counting

  abbrev pub parts : ℕ → ℕ → List ℕ
  parts m r = walk kids (suc m) r

  module _ (m n r : ℕ) (g : Good m n r) where
    pub used : 0 < n → suc (sum_of (λ d. length (own d)) (parts m r)) ≡ n
    unfolding pages
    used h = let c = good_core m n r g in omega (arith, length-flat own (parts m r), exactly n (pages (suc m) r) h c.ones c.inside)

    pub split : 0 < n → (kern hand : ℕ → List ℕ) → ((d : ℕ) → own d ≡ kern d ++ hand d) → suc (sum_of (λ d. length (hand d)) (parts m r) + sum_of (λ d. length (kern d)) (parts m r)) ≡ n
    split h kern hand e = omega (
      arith,
      used h,
      sum_ext (λ d. length (own d)) (λ d. length (kern d) + length (hand d)) (parts m r) (λ d. ap length (e d) ∙ length-append (kern d) (hand d)),
      sum-add (λ d. length (kern d)) (λ d. length (hand d)) (parts m r),
    )

    -- the root's kernel pages by themselves: those are not counted as handed out
    pub split_root : 0 < n → (kern hand : ℕ → List ℕ) → ((d : ℕ) → own d ≡ kern d ++ hand d) → suc (length (kern r) + (sum_of (λ d. length (hand d)) (parts m r) + sum_of (λ d. length (kern d)) (flat (walk kids m) (kids r)))) ≡ n
    unfolding walk sum_of
    split_root h kern hand e = omega (arith, split h kern hand e)
