-- A tree given by a list of children for each number: what is in it and how deep, a walk of it with fuel, and when the walk meets nothing
-- twice. Assumes nothing.
use Rattle.std.specs.Prelude.{◌≡◌, length, get_or}
use Rattle.std.proofs.Math.Path.{refl, sym, ap}
use Rattle.std.proofs.Common.{◌∙◌, subst}
use mathlib.Core.List.{List, [], ◌∷◌, ◌++◌}
use Prim.Native.Nat.{ℕ, zero, suc, ◌+◌, ◌≤◌, ◌<◌}
use native.Mathlib.Omega.{arith}
use Rattle.std.proofs.Math.Decide.{ℕ_discrete, dec_lt}
use Rattle.walk.specs.Lists.{hit, hit_same, hit_eq, hit_other, count, count_nil, count_append, count_at, at_count, same_at, at-once, flat, flat_append, flat-flat, flat_in, flat_ge, flat-two, flat-once, sum_of, count-flat, same_sum}

module _ (kids : ℕ → List ℕ) where
  -- d is k below r
  pub data InTree (r : ℕ) : ℕ → ℕ → Type 0 where
    top : InTree r 0 r
    under : {k d c : ℕ} → InTree r k d → 0 < count c (kids d) → InTree r (suc k) c

  -- x stands in the list of a partition of the tree: at which place of which
  pub record Spot (f : ℕ → List ℕ) (r x : ℕ) : Type 0 where
    pub depth : ℕ
    pub part : ℕ
    pub at : ℕ
    pub tree : InTree r depth part
    pub bound : at < length (f part)
    pub is : get_or (f part) at 0 ≡ x

  -- each partition, then all below it, k levels in all
  unfoldable pub walk : ℕ → ℕ → List ℕ
  walk zero d = []
  walk (suc k) d = d ∷ flat (walk k) (kids d)

  -- the same by levels
  level : ℕ → List ℕ → List ℕ
  level zero ds = ds
  level (suc n) ds = level n (flat kids ds)

  wide : ℕ → List ℕ → List ℕ
  wide zero ds = []
  wide (suc k) ds = ds ++ wide k (flat kids ds)

  level-suc : (n : ℕ) (ds : List ℕ) → level (suc n) ds ≡ flat kids (level n ds)
  unfolding level
  level-suc zero ds = refl
  level-suc (suc n) ds = level-suc n (flat kids ds)

  heads : (x : ℕ) (g : ℕ → List ℕ) (ds : List ℕ) → count x (flat (λ d. d ∷ g d) ds) ≡ count x ds + count x (flat g ds)
  unfolding flat count
  heads x g [] = omega arith
  heads x g (d ∷ ds) = omega (arith, count_append x (g d) (flat (λ e. e ∷ g e) ds), count_append x (g d) (flat g ds), heads x g ds)

  flat-none : (x : ℕ) (ds : List ℕ) → count x (flat (λ d. []) ds) ≡ 0
  unfolding flat
  flat-none x [] = count_nil x
  flat-none x (d ∷ ds) = flat-none x ds

  walk-wide : (k x : ℕ) (ds : List ℕ) → count x (flat (walk k) ds) ≡ count x (wide k ds)
  unfolding walk wide
  walk-wide zero x ds = flat-none x ds ∙ sym (count_nil x)
  walk-wide (suc k) x ds =
      let a : count x (flat (walk (suc k)) ds) ≡ count x ds + count x (flat (λ d. flat (walk k) (kids d)) ds) = heads x (λ d. flat (walk k) (kids d)) ds in
      let b : flat (walk k) (flat kids ds) ≡ flat (λ d. flat (walk k) (kids d)) ds = flat-flat kids (walk k) ds in
      omega (arith, a, ap (count x) b, walk-wide k x (flat kids ds), count_append x ds (wide k (flat kids ds)))

  wide-last : (k x : ℕ) (ds : List ℕ) → count x (wide (suc k) ds) ≡ count x (wide k ds) + count x (level k ds)
  unfolding wide level
  wide-last zero x ds = omega (arith, count_append x ds [], count_nil x)
  wide-last (suc k) x ds = omega (arith, count_append x ds (wide (suc k) (flat kids ds)), count_append x ds (wide k (flat kids ds)), wide-last k x (flat kids ds))

  wide-next : (k x : ℕ) (ds : List ℕ) → count x ds + count x (flat kids (wide k ds)) ≡ count x (wide (suc k) ds)
  unfolding wide flat
  wide-next zero x ds = omega (arith, count_append x ds [], count_nil x)
  wide-next (suc k) x ds =
      let a : flat kids (ds ++ wide k (flat kids ds)) ≡ flat kids ds ++ flat kids (wide k (flat kids ds)) = flat_append kids ds (wide k (flat kids ds)) in
      omega (arith, ap (count x) a, count_append x (flat kids ds) (flat kids (wide k (flat kids ds))), wide-next k x (flat kids ds), count_append x ds (wide (suc k) (flat kids ds)))

  wide_in : (k x : ℕ) (ds : List ℕ) → 0 < count x (wide k ds) → (n : ℕ) × (n < k) × (0 < count x (level n ds))
  wide_in zero x ds h = absurd (unfold wide count in (omega arith))
  wide_in (suc k) x ds h = elim (dec_lt 0 (count x (level k ds))) [ yes p ↦ (k, omega arith, p) | no n ↦ up (wide_in k x ds (omega (arith, wide-last k x ds))) ]
    where
      up : (n : ℕ) × (n < k) × (0 < count x (level n ds)) → (n : ℕ) × (n < suc k) × (0 < count x (level n ds))
      up (n, a, b) = (n, omega arith, b)

  in_wide : (k x : ℕ) (ds : List ℕ) (n : ℕ) → n < k → 0 < count x (level n ds) → 0 < count x (wide k ds)
  in_wide zero x ds n h l = absurd (omega arith)
  in_wide (suc k) x ds n h l = elim (ℕ_discrete n k) [ yes e ↦ omega (arith, ap (λ (j : ℕ). count x (level j ds)) e, wide-last k x ds) | no m ↦ omega (arith, in_wide k x ds n (omega arith) l, wide-last k x ds) ]

  tree-level : (r : ℕ) {k d : ℕ} → InTree r k d → 0 < count d (level k (r ∷ []))
  unfolding level count
  tree-level r top = omega (arith, hit_same r)
  tree-level r (under {k = k} {d = d} {c = c} t h) = rw (level-suc k (r ∷ [])) (omega (arith, flat_ge kids c (level k (r ∷ [])) d (tree-level r t)))

  level-tree : (r k d : ℕ) → 0 < count d (level k (r ∷ [])) → InTree r k d
  unfolding level count
  level-tree r zero d h = elim (ℕ_discrete d r) [ yes e ↦ rw e top | no n ↦ absurd (omega (arith, hit_other d r n)) ]
  level-tree r (suc k) d h =
      let (e, a, b) = flat_in kids d (level k (r ∷ [])) (rw (level-suc k (r ∷ [])) at h) in
      under (level-tree r k e a) b

  walk-count : (k x r : ℕ) → count x (walk k r) ≡ count x (wide k (r ∷ []))
  walk-count k x r =
      let a : count x (flat (walk k) (r ∷ [])) ≡ count x (walk k r) + 0 = unfold flat count in (count_append x (walk k r) []) in
      omega (arith, walk-wide k x (r ∷ []))

  -- the walk meets what is in the tree, as deep as it goes
  pub walk_in : (k x r : ℕ) → 0 < count x (walk k r) → (n : ℕ) × (n < k) × InTree r n x
  walk_in k x r h =
      let (n, a, b) = wide_in k x (r ∷ []) (omega (arith, walk-count k x r)) in
      (n, a, level-tree r n x b)

  pub in_walk : (k x r n : ℕ) → n < k → InTree r n x → 0 < count x (walk k r)
  in_walk k x r n h t = omega (arith, in_wide k x (r ∷ []) n h (tree-level r t), walk-count k x r)

  -- where the walk meets nothing twice and goes to the end, the children are listed once in all, and the root not at all
  pub once-below : (k r : ℕ) → ((d : ℕ) → count d (walk k r) ≤ 1) → ((n d : ℕ) → InTree r n d → n < k) → (c : ℕ) → hit c r + count c (flat kids (walk k r)) ≤ 1
  once-below k r one deep c =
      let a : sum_of (λ d. count c (kids d)) (walk k r) ≡ sum_of (λ d. count c (kids d)) (wide k (r ∷ [])) = same_sum (λ d. count c (kids d)) (walk k r) (wide k (r ∷ [])) (λ d. walk-count k d r) in
      let b : count c (level k (r ∷ [])) ≡ 0 = elim (dec_lt 0 (count c (level k (r ∷ [])))) [ yes p ↦ absurd (omega (arith, deep k c (level-tree r k c p))) | no n ↦ omega arith ] in
      let t : count c (r ∷ []) ≡ hit c r + 0 = unfold count in refl in
      omega (arith, one c, walk-count k c r, wide-next k c (r ∷ []), wide-last k c (r ∷ []), count-flat kids c (walk k r), count-flat kids c (wide k (r ∷ [])))

  -- and back
  module _ (r : ℕ)
      (one : (n d c : ℕ) → InTree r n d → count c (kids d) ≤ 1)
      (two : (n m d e c : ℕ) → InTree r n d → InTree r m e → 0 < count c (kids d) → 0 < count c (kids e) → d ≡ e)
      (none : (n d : ℕ) → InTree r n d → 0 < count r (kids d) → ⊥) where
    rootless : (m x : ℕ) → 0 < count x (level zero (r ∷ [])) → 0 < count x (level (suc m) (r ∷ [])) → ⊥
    rootless m x h k =
        let (d, a, p) = flat_in kids x (level m (r ∷ [])) (rw (level-suc m (r ∷ [])) at k) in
        let e : x ≡ r = unfold level count in (elim (ℕ_discrete x r) [ yes q ↦ q | no n ↦ absurd (omega (arith, hit_other x r n)) ]) in
        none m d (level-tree r m d a) (subst (λ (y : ℕ). 0 < count y (kids d)) e p)

    depth_same : (n m x : ℕ) → 0 < count x (level n (r ∷ [])) → 0 < count x (level m (r ∷ [])) → n ≡ m
    unfolding level
    depth_same zero zero x h k = refl
    depth_same zero (suc m) x h k = absurd (rootless m x h k)
    depth_same (suc n) zero x h k = absurd (rootless n x k h)
    depth_same (suc n) (suc m) x h k =
        let (d, a, p) = flat_in kids x (level n (r ∷ [])) (rw (level-suc n (r ∷ [])) at h) in
        let (e, b, q) = flat_in kids x (level m (r ∷ [])) (rw (level-suc m (r ∷ [])) at k) in
        let same : d ≡ e = two n m d e x (level-tree r n d a) (level-tree r m e b) p q in
        ap suc (depth_same n m d a (rw same b))

    level-once : (n x : ℕ) → count x (level n (r ∷ [])) ≤ 1
    level-once zero x = unfold level count in (elim (ℕ_discrete x r) [ yes e ↦ omega (arith, hit_eq x r e) | no n ↦ omega (arith, hit_other x r n) ])
    level-once (suc n) x = rw (level-suc n (r ∷ [])) (flat-once kids x (level n (r ∷ [])) (level-once n)
        (λ d h. one n d x (level-tree r n d h))
        (λ d e h k. two n n d e x (level-tree r n d h) (level-tree r n e k)))

    wide-once : (k x : ℕ) → count x (wide k (r ∷ [])) ≤ 1
    wide-once zero x = unfold wide count in (omega arith)
    wide-once (suc k) x = elim (dec_lt 0 (count x (level k (r ∷ [])))) [
      | yes p ↦ fresh p (dec_lt 0 (count x (wide k (r ∷ []))))
      | no n ↦ omega (arith, wide-last k x (r ∷ []), wide-once k x)
    ]
      where
        fresh : 0 < count x (level k (r ∷ [])) → Dec (0 < count x (wide k (r ∷ []))) → count x (wide (suc k) (r ∷ [])) ≤ 1
        fresh p (yes q) = let (n, a, b) = wide_in k x (r ∷ []) q in absurd (omega (arith, depth_same n k x b p))
        fresh p (no q) = omega (arith, wide-last k x (r ∷ []), level-once k x)

    pub walk-once : (k x : ℕ) → count x (walk k r) ≤ 1
    walk-once k x = omega (arith, walk-count k x r, wide-once k x)

  -- one place at most for x in the lists of the tree's partitions
  module _ (f : ℕ → List ℕ) (r x : ℕ) where
    pub spot_of : (n d : ℕ) → InTree r n d → 0 < count x (f d) → (u : Spot f r x) × (u.part ≡ d)
    spot_of n d t h =
        let (i, l, e) = at_count x (f d) h in
        (record { depth = n; part = d; at = i; tree = t; bound = l; is = e }, refl)

    module _ (same : (u v : Spot f r x) → (u.part ≡ v.part) × (u.at ≡ v.at)) where
      pub spots_one : (n d : ℕ) → InTree r n d → count x (f d) ≤ 1
      spots_one n d t = at-once x (f d) (λ i j hi hj ei ej. (same (record { depth = n; part = d; at = i; tree = t; bound = hi; is = ei }) (record { depth = n; part = d; at = j; tree = t; bound = hj; is = ej })).1)

      pub spots_two : (n m d e : ℕ) → InTree r n d → InTree r m e → 0 < count x (f d) → 0 < count x (f e) → d ≡ e
      spots_two n m d e t v p q =
          let (u, a) = spot_of n d t p in
          let (w, b) = spot_of m e v q in
          sym a ∙ (same u w).0 ∙ b

  -- a place in a partition's list, against the count in all of them
  module _ (f : ℕ → List ℕ) (k r : ℕ) (deep : (n d : ℕ) → InTree r n d → n < k) (x : ℕ) where
    pub spot-count : Spot f r x → 0 < count x (flat f (walk k r))
    spot-count u =
        omega (arith, count_at x (f u.part) u.at u.bound u.is, flat_ge f x (walk k r) u.part (in_walk k u.part r u.depth (deep u.depth u.part u.tree) u.tree))

    pub count-spot : 0 < count x (flat f (walk k r)) → Spot f r x
    count-spot h =
        let (d, a, b) = flat_in f x (walk k r) h in
        let (n, c, t) = walk_in k d r a in
        let (i, l, e) = at_count x (f d) b in
        record { depth = n; part = d; at = i; tree = t; bound = l; is = e }

    pub spot-same : count x (flat f (walk k r)) ≤ 1 → (u v : Spot f r x) → (u.part ≡ v.part) × (u.at ≡ v.at)
    spot-same h u v =
        let a : 0 < count u.part (walk k r) = in_walk k u.part r u.depth (deep u.depth u.part u.tree) u.tree in
        let b : 0 < count v.part (walk k r) = in_walk k v.part r v.depth (deep v.depth v.part v.tree) v.tree in
        let c : 0 < count x (f u.part) = count_at x (f u.part) u.at u.bound u.is in
        let d : 0 < count x (f v.part) = count_at x (f v.part) v.at v.bound v.is in
        let e : u.part ≡ v.part = elim (ℕ_discrete u.part v.part) [ yes q ↦ q | no n ↦ absurd (omega (arith, flat-two f x (walk k r) u.part v.part n a b)) ] in
        (e, same_at x (f u.part) (omega (arith, flat_ge f x (walk k r) u.part a)) u.at v.at u.bound (rw e v.bound) u.is (rw e v.is))

    pub same_spot : ((d : ℕ) → count d (walk k r) ≤ 1) → ((u v : Spot f r x) → (u.part ≡ v.part) × (u.at ≡ v.at)) → count x (flat f (walk k r)) ≤ 1
    same_spot one same = flat-once f x (walk k r) one
        (λ d h. let (n, a, t) = walk_in k d r h in spots_one f r x same n d t)
        (λ d e h j p q. let (n, a, t) = walk_in k d r h in let (m, b, v) = walk_in k e r j in spots_two f r x same n m d e t v p q)
