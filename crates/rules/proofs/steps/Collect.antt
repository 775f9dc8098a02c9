-- collect: the three of c at i goes, its pages are blank.
use mathlib.Core.Path.{◌≡◌, refl, sym, ap, ◌∙◌, subst}
use mathlib.Core.Logic.{◌≢◌}
use mathlib.Core.Option.{Option, none, some}
use mathlib.Core.List.{List, [], ◌∷◌}
use Prim.Native.Nat.{ℕ, suc, ◌≤◌}
use native.Mathlib.Omega.{arith}
use lib.ListN.{length}
use Rattle.rules.proofs.model.Base.{eqd, pick, pick_yes, pick_no, upd, upd_same, upd_other}
use Rattle.rules.proofs.model.Words.{idx}
use Rattle.rules.proofs.model.Abs.{Kind, pt, s1, s2, Role, header, hand, blank, desc, root, lst, tab, Hop, Three, Abs, parts, three_at, GoodHop, Owner, Tabs, WF, tag}
use Rattle.rules.proofs.model.Apart.{tab-part}
use Rattle.rules.proofs.model.Facts.{good_map, none-some, some_inj}
use Rattle.rules.proofs.model.Read.{ThreeIs, three-is}
use Rattle.rules.proofs.model.Roles.{tabs_map}
use Rattle.rules.proofs.steps.Prep.{at_here, at_on}

unfoldable pub without : ℕ → List Three → List Three
without i [] = []
without i (t ∷ ts) = pick (eqd i t.at) ts (t ∷ without i ts)

pub without-here : (i : ℕ) (t : Three) (ts : List Three) → i ≡ t.at → without i (t ∷ ts) ≡ ts
unfolding without
without-here i t ts e = pick_yes (eqd i t.at) ts _ e

pub without_on : (i : ℕ) (t : Three) (ts : List Three) → i ≢ t.at → without i (t ∷ ts) ≡ t ∷ without i ts
unfolding without
without_on i t ts e = pick_no (eqd i t.at) ts _ e

pub without_nil : (i : ℕ) → without i [] ≡ []
unfolding without
without_nil i = refl

pub at-without : (i j : ℕ) (ts : List Three) → j ≢ i → three_at j (without i ts) ≡ three_at j ts
at-without i j [] n = ap (three_at j) (without_nil i)
at-without i j (t ∷ ts) n = go (eqd i t.at) (eqd j t.at) (at-without i j ts n)
  where
    go : Dec (i ≡ t.at) → Dec (j ≡ t.at) → three_at j (without i ts) ≡ three_at j ts → three_at j (without i (t ∷ ts)) ≡ three_at j (t ∷ ts)
    go (yes y) d ih = ap (three_at j) (without-here i t ts y) ∙ sym (at_on j t ts (λ z. n (z ∙ sym y)))
    go (no y) (yes z) ih = ap (three_at j) (without_on i t ts y) ∙ at_here j t _ z ∙ sym (at_here j t ts z)
    go (no y) (no z) ih = ap (three_at j) (without_on i t ts y) ∙ at_on j t _ z ∙ ih ∙ sym (at_on j t ts z)

pub without-short : (i : ℕ) (ts : List Three) → length (without i ts) ≤ length ts
without-short i [] = rw (without_nil i) (omega arith)
without-short i (t ∷ ts) = go (eqd i t.at) (without-short i ts)
  where
    go : Dec (i ≡ t.at) → length (without i ts) ≤ length ts → length (without i (t ∷ ts)) ≤ suc (length ts)
    go (yes y) ih = rw (without-here i t ts y) (omega arith)
    go (no y) ih = rw (without_on i t ts y) (omega arith)

module _ {b : ℕ} (wide : 6 ≤ b) where
  tabs-other : (f g : ℕ → Role) (d i : ℕ) (ts : List Three) → ((k : Kind) (j q : ℕ) → j ≢ i → f q ≡ tab k d j → g q ≡ tab k d j) → Tabs b f d ts → three_at i ts ≡ none → Tabs b g d ts
  tabs-other f g d i [] h u e = tt
  tabs-other f g d i (z ∷ zs) h u e =
      let ne : i ≢ z.at = λ w. none-some (sym e ∙ at_here i z zs w) in
      (record { fits = u.0.fits; pages = λ k. h k z.at (z.page k) (λ w. ne (sym w)) (u.0.pages k); once = u.0.once }, tabs-other f g d i zs h u.1 (sym (at_on i z zs ne) ∙ e))

tab-at : {k k' : Kind} {d d' j j' : ℕ} → tab k d j ≡ tab k' d' j' → j ≡ j'
tab-at e = cc

module _ {b : ℕ} (wide : 6 ≤ b) where
  -- the rest of the threes, their pages in a function of roles that keeps them
  tabs-without : (f g : ℕ → Role) (d i : ℕ) (ts : List Three) → ((k : Kind) (j q : ℕ) → j ≢ i → f q ≡ tab k d j → g q ≡ tab k d j) → Tabs b f d ts → Tabs b g d (without i ts)
  tabs-without f g d i [] h t = rw (without_nil i) tt
  tabs-without f g d i (x ∷ xs) h t = go (eqd i x.at) (tabs-without f g d i xs h t.1)
    where
      go : Dec (i ≡ x.at) → Tabs b g d (without i xs) → Tabs b g d (without i (x ∷ xs))
      go (yes y) ih = rw (without-here i x xs y) (tabs-other wide f g d i xs h t.1 (rw (← y) at t.0.once))
      go (no y) ih = rw (without_on i x xs y)
          (record { fits = t.0.fits; pages = λ k. h k x.at (x.page k) (λ w. y (sym w)) (t.0.pages k); once = at-without i x.at xs (λ w. y (sym w)) ∙ t.0.once }, ih)

module _ (b : ℕ) where
  pub record CollPre (A : Abs) (c i : ℕ) (t : Three) : Type 0 where
    pub live : A.role c ≡ desc
    pub here : three_at i (A.threes c) ≡ some t
    pub empty : (v : ℕ) → idx b v ≡ i → A.maps c v ≡ none

unfoldable pub coll_role : Abs → Three → ℕ → Role
coll_role A t = upd (upd (upd A.role (t.page s2) blank) (t.page s1) blank) (t.page pt) blank

abbrev pub coll_a : Abs → ℕ → ℕ → Three → Abs
coll_a A c i t = record {
  role = coll_role A t;
  chain = A.chain;
  maps = A.maps;
  rootp = A.rootp;
  lstp = A.lstp;
  threes = upd A.threes c (without i (A.threes c));
  vcli = A.vcli;
  cur = A.cur;
}

module _ {b : ℕ} (wide : 6 ≤ b) where
  module _ (N : ℕ) (fl : ℕ → Option ℕ) (A : Abs) (wf : WF b N fl A) (c i : ℕ) (t : Three) (pre : CollPre b A c i t) where
    abbrev B : Abs
    B = coll_a A c i t

    is : ThreeIs b A.role c i t
    is = three-is wide A.role c i (A.threes c) t (wf.tabs c pre.live) pre.here

    pub data View (q : ℕ) : Type 0 where
      off : (k : Kind) → q ≡ t.page k → B.role q ≡ blank → View q
      on : ((k : Kind) → q ≢ t.page k) → B.role q ≡ A.role q → View q

    pub view : (q : ℕ) → View q
    unfolding coll_role
    view q = go (eqd q (t.page pt)) (eqd q (t.page s1)) (eqd q (t.page s2))
      where
        all : q ≢ t.page pt → q ≢ t.page s1 → q ≢ t.page s2 → (k : Kind) → q ≢ t.page k
        all a β c pt = a
        all a β c s1 = β
        all a β c s2 = c

        go : Dec (q ≡ t.page pt) → Dec (q ≡ t.page s1) → Dec (q ≡ t.page s2) → View q
        go (yes e) β d = off pt e (rw e (upd_same _ (t.page pt) blank))
        go (no a) (yes e) d = off s1 e (upd_other _ (t.page pt) blank q a ∙ (rw e (upd_same _ (t.page s1) blank)))
        go (no a) (no β) (yes e) = off s2 e (upd_other _ (t.page pt) blank q a ∙ upd_other _ (t.page s1) blank q β ∙ (rw e (upd_same _ (t.page s2) blank)))
        go (no a) (no β) (no d) = on (all a β d) (upd_other _ (t.page pt) blank q a ∙ upd_other _ (t.page s1) blank q β ∙ upd_other _ (t.page s2) blank q d)

    -- all but this three's pages keep their role
    keep : (q : ℕ) (r : Role) → A.role q ≡ r → ((k : Kind) → r ≢ tab k c i) → B.role q ≡ r
    keep q r e n = go (view q)
      where
        go : View q → B.role q ≡ r
        go (off k x y) = absurd (n k (sym e ∙ ap A.role x ∙ is.pages k))
        go (on _ y) = y ∙ e

    not-tab : (r : Role) → tag r ≢ 6 → (k : Kind) → r ≢ tab k c i
    not-tab r n k e = n (ap tag e)

    up : (q : ℕ) (r : Role) → tag r ≢ 6 → A.role q ≡ r → B.role q ≡ r
    up q r n e = keep q r e (not-tab r n)

    down : (q : ℕ) (r : Role) → tag r ≢ 2 → B.role q ≡ r → (A.role q ≡ r) × ((k : Kind) → q ≢ t.page k)
    down q r n e = go (view q)
      where
        go : View q → (A.role q ≡ r) × ((k : Kind) → q ≢ t.page k)
        go (off k x y) = absurd (n (ap tag (sym e ∙ y)))
        go (on a y) = (sym y ∙ e, a)

    pub threes-keep : (d j : ℕ) (x : Three) → ¬ ((d ≡ c) × (j ≡ i)) → three_at j (A.threes d) ≡ some x → three_at j (B.threes d) ≡ some x
    threes-keep d j x n e = go (eqd d c)
      where
        go : Dec (d ≡ c) → three_at j (B.threes d) ≡ some x
        go (yes y) = rw (y, upd_same A.threes c (without i (A.threes c))) (at-without i j (A.threes c) (λ z. n (y, z)) ∙ (rw y at e))
        go (no m) = rw (upd_other A.threes c (without i (A.threes c)) d m) e

    coll_hop : (q : ℕ) (h : Hop) (hs : List Hop) → GoodHop b A q h hs → GoodHop b B q h hs
    coll_hop q h hs g = record {
      live = up h.part desc (omega arith) g.live;
      some_v = g.some_v;
      small = g.small;
      mapped = g.mapped;
      above = g.above;
      three = (g.three.0, threes-keep h.part (idx b h.vp) g.three.0 (λ y. none-some (sym (pre.empty h.vp y.1) ∙ (rw y.0 at g.mapped))) g.three.1);
      rights = g.rights;
    }

    coll_tabs : (d : ℕ) → B.role d ≡ desc → Tabs b B.role d (B.threes d)
    coll_tabs d l = go (eqd d c)
      where
        old : Tabs b A.role d (A.threes d)
        old = wf.tabs d (down d desc (omega arith) l).0

        go : Dec (d ≡ c) → Tabs b B.role d (B.threes d)
        go (yes y) = rw (y, upd_same A.threes c (without i (A.threes c))) (tabs-without wide A.role B.role c i (A.threes c) (λ k j q n e. keep q (tab k c j) e (λ k' z. n (tab-at z))) (rw y at old))
        go (no n) = rw (upd_other A.threes c (without i (A.threes c)) d n) (tabs_map wide A.role B.role d (A.threes d) (λ k j q e. keep q (tab k d j) e (λ k' z. n (tab-part z))) old)

    coll_tab-inv : (k : Kind) (d j q : ℕ) → B.role q ≡ tab k d j → (B.role d ≡ desc) × (x : Three) × (three_at j (B.threes d) ≡ some x) × (x.page k ≡ q)
    coll_tab-inv k d j q e =
        let u = down q (tab k d j) (omega arith) e in
        let x = wf.tab_inv k d j q u.0 in
        let n : ¬ ((d ≡ c) × (j ≡ i)) = λ y.
        (let w : three_at j (A.threes d) ≡ some t = rw (y.0, y.1) pre.here in
        u.1 k (sym x.3 ∙ ap (λ (z : Three). z.page k) (some_inj (sym x.2 ∙ w)))) in
        (up d desc (omega arith) x.0, x.1, threes-keep d j x.1 n x.2, x.3)

    coll_kernel : (q d : ℕ) → Owner (B.role q) q d → parts (A.chain q) ≡ parts (A.chain d)
    coll_kernel q d w = go (view q)
      where
        go : View q → parts (A.chain q) ≡ parts (A.chain d)
        go (off k x y) = absurd (subst (λ (r : Role). Owner r q d) y w)
        go (on _ y) = wf.kernel q d (subst (λ (r : Role). Owner r q d) y w)

    coll_ten : (d : ℕ) → B.role d ≡ desc → length (B.threes d) ≤ 10
    coll_ten d l = go (eqd d c)
      where
        go : Dec (d ≡ c) → length (B.threes d) ≤ 10
        go (yes y) = rw (y, upd_same A.threes c (without i (A.threes c))) (omega (arith, without-short i (A.threes c), wf.ten c pre.live))
        go (no n) = rw (upd_other A.threes c (without i (A.threes c)) d n) (wf.ten d (down d desc (omega arith) l).0)

    pub coll_wf : WF b N fl B
    coll_wf = record {
      beyond = λ q l. (up q hand (omega arith) (wf.beyond q l).0, (wf.beyond q l).1);
      head_role = up 0 header (omega arith) wf.head_role;
      head_only = λ q e. wf.head_only q (down q header (omega arith) e).0;
      head_chain = wf.head_chain;
      root_live = up 1 desc (omega arith) wf.root_live;
      root_top = wf.root_top;
      root_only = λ d l e. wf.root_only d (down d desc (omega arith) l).0 e;
      good = λ q. good_map wide A B q (length (A.chain q)) (A.chain q) (omega arith) (λ h hs l g. coll_hop q h hs g) (wf.good q);
      seen = wf.seen;
      root_role = λ k d l. up (A.rootp k d) (root k d) (omega arith) (wf.root_role k d (down d desc (omega arith) l).0);
      root_inv = λ k d q e. let x = wf.root_inv k d q (down q (root k d) (omega arith) e).0 in (up d desc (omega arith) x.0, x.1);
      lst_role = λ d l. up (A.lstp d) (lst d) (omega arith) (wf.lst_role d (down d desc (omega arith) l).0);
      lst_inv = λ d q e. let x = wf.lst_inv d q (down q (lst d) (omega arith) e).0 in (up d desc (omega arith) x.0, x.1);
      tabs = coll_tabs;
      tab_inv = coll_tab-inv;
      kernel = coll_kernel;
      held = λ q e l. wf.held q (down q hand (omega arith) e).0 l;
      top_maps = wf.top_maps;
      depth = λ d l. wf.depth d (down d desc (omega arith) l).0;
      ten = coll_ten;
      cur_live = up A.cur desc (omega arith) wf.cur_live;
    }
