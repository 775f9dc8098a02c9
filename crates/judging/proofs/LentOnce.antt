-- Each page that a partition lends to a child is mapped in that child once, where the child's shadow 2 words rise, and exactly where the pages lent and
-- the pages mapped are as many. Assumes that a page has room for a list of ten threes.
use mathlib.Core.Path.{◌≡◌, refl, sym, ap, ◌∙◌, subst}
use mathlib.Core.List.{List}
use mathlib.Core.Bool.{not}
use mathlib.Core.Logic.{◌≢◌, ◌↔◌}
use Prim.Native.Nat.{ℕ, ◌≤◌, ◌<◌}
use native.Mathlib.Omega.{arith}
use native.Mathlib.Decide.{ℕ_discrete}
use lib.Dec.{eqb}
use lib.ListN.{length}
use Rattle.walk.specs.Lists.{count}
use Rattle.walk.specs.Reflect.{eq?, isn't}
use Rattle.walk.specs.Finite.{One, keep, keep-once, image, image_in, in_image, image-once, length-image}
use Rattle.memory.specs.Geometry.{page_words, page_of}
use Rattle.memory.specs.Partition.{mapping, lent, above}
use Rattle.memory.specs.Tree.{Has, Child, InTree, root, child}
use Rattle.memory.specs.Counts as C
use Rattle.soundness.proofs.Places.{tabled-once}
use Rattle.soundness.proofs.Whole.{child-far}
use Rattle.judging.specs.Quick as Q
use Rattle.judging.proofs.Lengths.{no_more, same_length, image_inj}
use Rattle.judging.proofs.Rising.{rising-once}
use Rattle.judging.proofs.Local.{Local, MapsFrom, Back, kept, above-has}
use Rattle.judging.proofs.Chains.{Unlent, Below, here, step, unlent_of, root_below}

two : {P : ℕ → Type 0} → One P → (u w : ℕ) → P u → P w → u ≡ w
two (x, p, only) u w h k = only u h ∙ sym (only w k)

module _ (b : ℕ) (m : List ℕ) where
  -- the addresses of d at which it lends to its child at v; those at which c maps a page
  lent_at : ℕ → ℕ → List ℕ
  lent_at d v = keep (λ x. eqb (lent b m d x) v) (C.tabled b m d)

  mapped_at : ℕ → List ℕ
  mapped_at c = keep (λ u. not (eqb (mapping b m c u) 0)) (C.tabled b m c)

  lent_in : (d v x : ℕ) → (0 < count x (lent_at d v)) ↔ (Has b m d x × (lent b m d x ≡ v))
  unfolding lent_at
  lent_in d v x = kept b m d (λ y. eq?) x

  lent-once : (d v x : ℕ) → count x (lent_at d v) ≤ 1
  unfolding lent_at
  lent-once d v x = keep-once (λ y. eqb (lent b m d y) v) x (C.tabled b m d) (tabled-once b m d x)

  mapped_in : (c u : ℕ) → (0 < count u (mapped_at c)) ↔ (Has b m c u × (mapping b m c u ≢ 0))
  unfolding mapped_at
  mapped_in c u = kept b m c (λ y. isn't (eq? {x = mapping b m c y})) u

  mapped-once : (c u : ℕ) → count u (mapped_at c) ≤ 1
  unfolding mapped_at
  mapped-once c u = keep-once (λ y. not (eqb (mapping b m c y) 0)) u (C.tabled b m c) (tabled-once b m c u)

  -- the addresses, in its parent, of the pages that c maps
  abbrev sources : ℕ → List ℕ
  sources c = image (above b m c) (mapped_at c)

  sources-is : (c : ℕ) → Q.sources b m c ≡ sources c
  unfolding mapped_at Q.sources
  sources-is c = refl

  -- what is told of the child c at v of d, where its shadow 2 words do not rise
  abbrev pub Counts : ℕ → ℕ → ℕ → Type 0
  Counts d v c = (Q.top 0 (Q.sources b m c) ≢ Q.largest → ⊥) → Q.lent_count b m d v ≡ Q.mapped_count b m c

  lengths : (d v c : ℕ) → (length (lent_at d v) ≡ length (sources c)) ↔ (Q.lent_count b m d v ≡ Q.mapped_count b m c)
  unfolding lent_at mapped_at Q.lent_count Q.mapped_count
  lengths d v c = ((λ e. e ∙ length-image (above b m c) _), λ e. e ∙ sym (length-image (above b m c) _))

  lent-source : (d v c : ℕ) → ((x : ℕ) → Has b m d x → lent b m d x ≡ v → (u : ℕ) × MapsFrom b m c x u) → (x : ℕ) → 0 < count x (lent_at d v) → 0 < count x (sources c)
  lent-source d v c some x p =
      let (h, e) = (lent_in d v x).0 p in
      let (u, (i, (n, f))) = some x h e in
      subst (λ (y : ℕ). 0 < count y (sources c)) f (in_image (above b m c) u (mapped_at c) ((mapped_in c u).1 (i, n)))

  -- c maps a page that comes from x of its parent, and this mapping comes down to that of e at y
  record Under (c x e y : ℕ) : Type 0 where
    at : ℕ
    from : MapsFrom b m c x at
    rest : Below b m c at e y

  -- d's mappings of a page come down to every mapping of the page that is not lent
  abbrev Reaches : ℕ → Type 0
  Reaches d = (x : ℕ) → Has b m d x → mapping b m d x ≢ 0 → (p : ℕ) → page_of b (mapping b m d x) ≡ p → (a : Unlent b m p) → Below b m d x a.part a.at

  module _ (s : Local b m) where
    lent-mapped : {k d v c : ℕ} → InTree b m k d → Child b m d v c → (x : ℕ) → Has b m d x → lent b m d x ≡ v → mapping b m d x ≢ 0
    lent-mapped {k} {d} t a x h e n = omega (arith, (s.absent t x h n).0, child-far b m (s.forms k d t).none a)

    module _ {k d v c : ℕ} (t : InTree b m k d) (a : Child b m d v c) where
      -- d has one child at v
      same-child : {w f : ℕ} → Child b m d w f → w ≡ v → f ≡ c
      same-child g e = sym g.page ∙ ap (λ (z : ℕ). page_of b (mapping b m d z)) e ∙ a.page

      -- from a page lent to c a chain goes on in c
      next : {x e y : ℕ} → Below b m d x e y → lent b m d x ≡ v → lent b m e y ≤ 1 → Under c x e y
      next here q l = absurd (omega (arith, child-far b m (s.forms k d t).none a))
      next {x} {e} {y} (step {u = u} g h n z r) q l =
          let i = same-child g (sym (s.down t g u h n).names ∙ ap (lent b m d) z ∙ q) in
          subst (λ (o : ℕ). Under o x e y) i (record { at = u; from = (h, (n, z)); rest = r })

      module _ (big : 61 ≤ page_words b) (reach : Reaches d) where
        -- each page lent to c is mapped in c
        some : (x : ℕ) → Has b m d x → lent b m d x ≡ v → (u : ℕ) × MapsFrom b m c x u
        some x h e =
            let n = lent-mapped t a x h e in
            let f = unlent_of b m s big t x h n in
            let w = next (reach x h n _ refl f) e f.free in
            (w.at, w.from)

        -- and once, where its shadow 2 words rise or the pages mapped are no more
        source-once : Counts d v c → (x : ℕ) → count x (sources c) ≤ 1
        source-once q x = elim (ℕ_discrete (Q.top 0 (Q.sources b m c)) Q.largest) [
          | no n ↦ (rising-once (sources c) 0 (subst (λ (l : List ℕ). Q.top 0 l ≢ Q.largest) (sources-is c) n) x).0
          | yes e ↦ omega (
            arith,
            no_more (lent_at d v) (sources c) (lent-once d v) (lent-source d v c some) (omega (arith, (lengths d v c).1 (q (λ n. n e)))) x,
            lent-once d v x,
          )
        ]

        one-source : Counts d v c → (x u w : ℕ) → MapsFrom b m c x u → MapsFrom b m c x w → u ≡ w
        one-source q x u w (h, (n, e)) (i, (o, f)) =
            image_inj (above b m c) (mapped_at c) u w (source-once q (above b m c u)) ((mapped_in c u).1 (h, n)) ((mapped_in c w).1 (i, o)) (e ∙ sym f)

    -- ---- from the counts

    module _ (big : 61 ≤ page_words b) (counts : (k d v c : ℕ) → InTree b m k d → Child b m d v c → Counts d v c) where
      reaches : {k d : ℕ} → InTree b m k d → Reaches d
      reaches root x h n p q f = root_below b m s x h n q f
      reaches (child {k = k} {d = d} {v = v} {c = c} t a) u h n p q f =
          let x = above b m c u in
          let z = s.down t a u h n in
          let w = next t a (reaches t x (above-has b m s t a u h n) z.mapped p (sym z.page ∙ q) f) z.names f.free in
          let same : w.at ≡ u = one-source t a big (reaches t) (counts k d v c t a) x w.at u w.from (h, (n, refl)) in
          subst (λ (y : ℕ). Below b m c y f.part f.at) same w.rest

      pub count-back : {k d : ℕ} → InTree b m k d → Back b m d
      count-back {k} {d} t x h l =
          let (c, a) = s.named t x h l in
          let (u, i) = some t a big (reaches t) x h refl in
          (c, a, (u, i, λ w j. one-source t a big (reaches t) (counts k d _ c t a) x w u j i))

    -- ---- to the counts

    pub back_count : {k d v c : ℕ} → InTree b m k d → Child b m d v c → Back b m d → Q.lent_count b m d v ≡ Q.mapped_count b m c
    back_count {k} {d} {v} {c} t a back = (lengths d v c).0 (same_length (lent_at d v) (sources c) (lent-once d v) (lent-source d v c (λ x h e. let (u, i, _) = one x h e in (u, i))) once from)
      where
        one : (x : ℕ) → Has b m d x → lent b m d x ≡ v → One (MapsFrom b m c x)
        one x h e =
            let (f, g, o) = back x h (lent-mapped t a x h e, omega (arith, child-far b m (s.forms k d t).none a)) in
            subst (λ (z : ℕ). One (MapsFrom b m z x)) (same-child t a g e) o

        source-lent : (u : ℕ) → 0 < count u (mapped_at c) → Has b m d (above b m c u) × (lent b m d (above b m c u) ≡ v)
        source-lent u p = let (h, n) = (mapped_in c u).0 p in (above-has b m s t a u h n, (s.down t a u h n).names)

        from : (x : ℕ) → 0 < count x (sources c) → 0 < count x (lent_at d v)
        from x p =
            let (u, q, e) = image_in (above b m c) x (mapped_at c) p in
            subst (λ (y : ℕ). 0 < count y (lent_at d v)) e ((lent_in d v (above b m c u)).1 (source-lent u q))

        same : (x u w : ℕ) → 0 < count u (mapped_at c) → 0 < count w (mapped_at c) → above b m c u ≡ x → above b m c w ≡ x → u ≡ w
        same x u w p q e f =
            let (h, n) = (mapped_in c u).0 p in
            let (i, o) = (mapped_in c w).0 q in
            let (j, l) = source-lent u p in
            two (one (above b m c u) j l) u w (h, (n, refl)) (i, (o, f ∙ sym e))

        once : (x : ℕ) → count x (sources c) ≤ 1
        once x = image-once (above b m c) x (mapped_at c) (mapped-once c) (same x)
