-- Every mapping is found on its page's chain: the chain goes through the partition at that address, and the mapping's words are those of the state. Assumes
-- an index width of 6 or more.
use mathlib.Core.Path.{◌≡◌, refl, sym, ap, ◌∙◌, subst, subst₂}
use mathlib.Core.List.{List}
use mathlib.Core.Logic.{◌≢◌, inl, inr}
use mathlib.Core.Bool.{false}
use mathlib.Core.Option.{Option, none, some}
use Prim.Native.Nat.{ℕ, zero, suc, ◌+◌, ◌*◌, ◌≤◌, ◌<◌}
use native.Mathlib.Omega.{arith}
use native.Mathlib.Decide.{dec_lt}
use lib.ListN.{get_or}
use Rattle.memory.specs.Geometry.{page_of, most_depth}
use Rattle.memory.specs.Words.{word}
use Rattle.memory.specs.Entry.{accessible}
use Rattle.memory.specs.Partition.{list, mapping, lent, above}
use Rattle.memory.specs.Tree.{Virtual, Has, Child, InTree, child}
use Rattle.memory.specs.Uses.{Way, five, listed, in_hand, five_pages, KernelWay, is_five, is_listed, UsedBy, Use}
use Rattle.memory.specs.Sound.{Forms, Agrees, ChildRight, KernelAddress, Sound}
use Rattle.memory.proofs.Geometry.{page-address}
use Rattle.soundness.proofs.Whole.{mapped-has, used-inside}
use Rattle.rules.proofs.model.Base.{eqd}
use Rattle.rules.proofs.model.Words.{bit, addr}
use Rattle.rules.proofs.model.Abs.{Role, head_v, seek, is_hand, own_word, lent_word}
use Rattle.rules.proofs.model.Facts.{seek-on}
use Rattle.rules.proofs.sound.Pages.{five_role}
use Rattle.rules.proofs.state.Tree.{room, one-depth}
use Rattle.rules.proofs.state.State.{hop, hops, listed_address, way_role, way_address, way_hops, role, chain, state}
use Rattle.rules.proofs.state.Used.{used}
use Rattle.rules.proofs.state.Hops.{hops-virtual, hops-child, kernel-child}

later-own : (d j : ℕ) → 0 ≡ own_word (five_role d (suc j))
later-own d zero = refl
later-own d (suc zero) = refl
later-own d (suc (suc zero)) = refl
later-own d (suc (suc (suc j))) = refl

five-apart : (j : ℕ) → five (suc j) ≢ five 0
five-apart j e = let z : suc j ≡ 0 = cc in omega arith

listed-apart : (j : ℕ) → listed j ≢ five 0
listed-apart j e = let z : ◌≡◌ {A = ℕ} 0 1 = cc in omega arith

module _ (b : ℕ) (m : List ℕ) where
  -- partition d maps page p at v
  pub record At (d v p : ℕ) : Type 0 where
    pub has : Has b m d v
    pub present : mapping b m d v ≢ 0
    pub page : page_of b (mapping b m d v) ≡ p

  agreed : (d v a p : ℕ) → Virtual b v → Agrees b m d v a → page_of b a ≡ p → At d v p
  agreed d v a p h (n, e) q =
      let f = sym (page-address b (page_of b (mapping b m d v))) ∙ ap (page_of b) e ∙ q in
      record { has = mapped-has b m d v h n; present = n; page = f }

  marked : {d v p : ℕ} → At d v p → lent b m d v ≡ 1 → Child b m d v p
  marked x e = record { has = x.has; present = x.present; mark = e; page = x.page }

  -- a kernel page is not in hand
  pub serving-shut : (d : ℕ) (y : Way) → KernelWay y → is_hand (way_role b m d y) ≡ false
  unfolding way_role
  serving-shut d y (is_five {j = zero}) = refl
  serving-shut d y (is_five {j = suc zero}) = refl
  serving-shut d y (is_five {j = suc (suc zero)}) = refl
  serving-shut d y (is_five {j = suc (suc (suc zero))}) = refl
  serving-shut d y (is_five {j = suc (suc (suc (suc j)))}) = refl
  serving-shut d y is_listed = refl

module _ {b : ℕ} (wide : 6 ≤ b) (m : List ℕ) (s : Sound b m) where
  -- d's mapping of page p at v is on the chain of p, where below is the partition of the hop before, if any: a partition no deeper than d is looked for in
  -- the chain from this mapping on
  pub record Found (k d v p : ℕ) : Type 0 where
    pub below : Option ℕ
    pub reach : (e j : ℕ) → InTree b m j e → j ≤ k → seek none e (chain b m s p) ≡ seek below e (hops b m d v)
    pub acc : accessible (mapping b m d v) ≡ bit (is_hand (role b m s p))
    pub lent : lent b m d v ≡ lent_word b (state b m s) (role b m s p) below

  -- ---- a page in hand

  held : {k d : ℕ} → InTree b m k d → (v p : ℕ) → At b m d v p → lent b m d v ≡ 0 → accessible (mapping b m d v) ≡ 1 → Found k d v p
  unfolding way_role way_hops lent_word
  held {k} {d} t v p x e a =
      let u = used wide m s t (in_hand v) p (x.has, x.present, a, e, x.page) in
      record {
        below = none;
        reach = λ f j i l. ap (seek none f) u.1;
        acc = a ∙ ap (λ (r : Role). bit (is_hand r)) (sym u.0);
        lent = e ∙ ap own_word (sym u.0);
      }

  module _ {k d w c : ℕ} (t : InTree b m k d) (a : Child b m d w c) where
    -- ---- a page that serves the child c of d, as a kernel page: it is mapped in d, inaccessible and not lent

    forms : Forms b m c
    forms = s.forms (suc k) c (child t a)

    right : ChildRight b m d w c
    right = (s.children k d t).right w c a

    pub five-page : (j : ℕ) → j < 5 → page_of b (word b m c (2 * j + 1)) ≡ get_or (five_pages b m c) j 0
    five-page zero l = ap (page_of b) right.itself ∙ page-address b c
    five-page (suc zero) l = refl
    five-page (suc (suc zero)) l = refl
    five-page (suc (suc (suc zero))) l = refl
    five-page (suc (suc (suc (suc zero)))) l = refl
    five-page (suc (suc (suc (suc (suc j))))) l = absurd (omega arith)

    pub serving-at : (y : Way) → KernelWay y → (p : ℕ) → UsedBy b m c y p → At b m d (way_address b m c y) p
    serving-at y (is_five {j = j}) p (l, e) =
        agreed b m d (word b m c (2 * j)) (word b m c (2 * j + 1)) p (forms.descriptor.pairs j l).0 (right.five j l) (five-page j l ∙ e)
    serving-at y (is_listed {j = j}) p (l, e) =
        agreed b m d (listed_address b m c j) (word b m (list b m c) (2 + 2 * j)) p (forms.list.pairs j l).0 (right.listed j l) e

    pub serving-hops : (y : Way) → KernelWay y → way_hops b m c y ≡ hops b m d (way_address b m c y)
    unfolding way_hops
    serving-hops y (is_five {j = j}) = kernel-child wide m s t a (word b m c (2 * j))
    serving-hops y (is_listed {j = j}) = kernel-child wide m s t a (listed_address b m c j)

    shut_at : (y : Way) → KernelWay y → (p : ℕ) → UsedBy b m c y p
        → (accessible (mapping b m d (way_address b m c y)) ≡ 0) × (lent b m d (way_address b m c y) ≤ 1)
    shut_at y (is_five {j = j}) p u = let x = (s.kernel k d t).shut w c a (word b m c (2 * j)) (inl (j, u.0, refl)) in (x.1, x.2)
    shut_at y (is_listed {j = j}) p u = let x = (s.kernel k d t).shut w c a (listed_address b m c j) (inr (j, u.0, refl)) in (x.1, x.2)

    -- if a page other than c's descriptor had shadow 1 word 1, it would be a descriptor too and have two uses
    not-marked : (y : Way) → KernelWay y → y ≢ five 0 → (p : ℕ) → UsedBy b m c y p → lent b m d (way_address b m c y) ≡ 0
    not-marked y z n p u = go (eqd (lent b m d (way_address b m c y)) 1)
      where
        go : Dec (lent b m d (way_address b m c y) ≡ 1) → lent b m d (way_address b m c y) ≡ 0
        go (yes o) =
            let t₁ = child t a in
            let t₂ = child t (marked b m (serving-at y z p u) o) in
            let (l, h) = used-inside b m s (room wide) t₁ y p u in
            let u₁ : Use b m p = record { depth = suc k; part = c; way = y; tree = t₁; used = u } in
            let u₂ : Use b m p = record { depth = suc k; part = p; way = five 0; tree = t₂; used = (omega arith, refl) } in
            absurd (n (s.uses.one p l h u₁ u₂).1)
        go (no o) = omega (arith, (shut_at y z p u).1)

    own-word : (y : Way) → KernelWay y → (p : ℕ) → UsedBy b m c y p → lent b m d (way_address b m c y) ≡ own_word (way_role b m c y)
    unfolding way_role
    own-word y (is_five {j = zero}) p u = ap (lent b m d) right.stands ∙ a.mark
    own-word y (is_five {j = suc j}) p u = not-marked y is_five (five-apart j) p u ∙ later-own c j
    own-word y (is_listed {j = j}) p u = not-marked y is_listed (listed-apart j) p u

    serving : (y : Way) → KernelWay y → (p : ℕ) → UsedBy b m c y p → Found k d (way_address b m c y) p
    unfolding lent_word
    serving y z p u =
        let r = used wide m s (child t a) y p u in
        record {
          below = none;
          reach = λ f j i n. ap (seek none f) (r.1 ∙ serving-hops y z);
          acc = (shut_at y z p u).0 ∙ ap bit (sym (serving-shut b m c y z)) ∙ ap (λ (x : Role). bit (is_hand x)) (sym r.0);
          lent = own-word y z p u ∙ ap own_word (sym r.0);
        }

    shut : (v p : ℕ) → KernelAddress b m c v → At b m d v p → Found k d v p
    shut v p h x = go h
      where
        from : (y : Way) → KernelWay y → (q : ℕ) → UsedBy b m c y q → way_address b m c y ≡ v → Found k d v p
        from y z q u e =
            let f : q ≡ p = sym (serving-at y z q u).page ∙ ap (λ (i : ℕ). page_of b (mapping b m d i)) e ∙ x.page in
            subst₂ (λ (i n : ℕ). Found k d i n) e f (serving y z q u)

        go : KernelAddress b m c v → Found k d v p
        go (inl (j, l, e)) = from (five j) is_five _ (l, refl) e
        go (inr (j, l, e)) = from (listed j) is_listed _ (l, refl) e

    -- ---- a page lent to the child c of d: its mapping in c comes just before that in d

    -- the address of a child is that of its descriptor's first hop
    child-address : addr b (head_v (chain b m s c)) ≡ w
    child-address =
        let r = (used wide m s (child t a) (five 0) c (omega arith, refl)).1 ∙ serving-hops (five 0) is_five in
        hops-virtual b m d w (chain b m s c) (r ∙ ap (hops b m d) right.stands) a.has.virtual

    -- a partition no deeper than d is not c
    not-child : {e j : ℕ} → InTree b m j e → j ≤ k → e ≢ c
    not-child i l z = omega (arith, one-depth wide m s i (subst (InTree b m (suc k)) (sym z) (child t a)))

    lent-on : (u p : ℕ) → At b m c u p → Found (suc k) c u p → Found k d (above b m c u) p
    unfolding lent_word
    lent-on u p x f =
        let q = (s.lending k d t).down w c a u x.has x.present in
        record {
          below = some c;
          reach = λ e j i l.
              f.reach e j i (omega arith)
              ∙ ap (seek f.below e) (hops-child wide m s t a u)
              ∙ seek-on f.below e (hop b m c u) (hops b m d (above b m c u)) (not-child i l);
          acc = sym q.bit ∙ f.acc;
          lent = q.names ∙ sym child-address;
        }

  -- ---- every mapping is of one of these three kinds

  -- a child's descriptor is inaccessible
  descriptor-shut : {k d : ℕ} → InTree b m k d → (v p : ℕ) → Child b m d v p → accessible (mapping b m d v) ≡ 0
  descriptor-shut {k} {d} t v p a = ((s.kernel k d t).shut v p a v (inl (0, omega arith, ((s.children k d t).right v p a).stands))).1

  -- by the number of levels left below d: a lent page is found in the child first
  found_from : (n : ℕ) {k d : ℕ} → InTree b m k d → most_depth < k + n → (v p : ℕ) → At b m d v p → Found k d v p
  found_from zero {k} {d} t l v p x = absurd (omega (arith, s.depth k d t))
  found_from (suc n) {k} {d} t l v p x = elim (dec_lt 1 (lent b m d v)) [
    | yes h ↦
        let (c, a, (u, (i, (o, e)), one)) = (s.lending k d t).back v x.has (x.present, h) in
        let q = ((s.lending k d t).down (lent b m d v) c a u i o).page in
        let y : At b m c u p = record { has = i; present = o; page = q ∙ ap (λ (z : ℕ). page_of b (mapping b m d z)) e ∙ x.page } in
        subst (λ (z : ℕ). Found k d z p) e (lent-on t a u p y (found_from n (child t a) (omega arith) u p y))
    | no h ↦ elim (eqd (accessible (mapping b m d v)) 0) [
      | yes o ↦ let (w, c, a, z) = (s.kernel k d t).others v x.has x.present (omega arith) o in shut t a v p z x
      | no o ↦ elim (eqd (lent b m d v) 1) [
        | yes e ↦ absurd (o (descriptor-shut t v p (marked b m x e)))
        | no e ↦ held t v p x (omega arith) (omega arith)
      ]
    ]
  ]

  pub found : {k d : ℕ} → InTree b m k d → (v p : ℕ) → At b m d v p → Found k d v p
  found t v p x = found_from (suc most_depth) t (omega arith) v p x
