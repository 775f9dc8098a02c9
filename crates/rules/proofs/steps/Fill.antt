-- Five blank pages become a partition of o.
use mathlib.Core.Path.{◌≡◌, refl, sym, ap, ◌∙◌, subst}
use mathlib.Core.Logic.{◌≢◌}
use mathlib.Core.Bool.{Bool, true, false}
use mathlib.Core.Option.{Option, some}
use mathlib.Core.List.{List, [], ◌∷◌}
use Prim.Native.Nat.{ℕ, ◌≤◌, ◌<◌}
use native.Mathlib.Omega.{arith}
use lib.ListN.{length}
use Rattle.rules.proofs.model.Base.{eqd, upd, upd_same, upd_other}
use Rattle.rules.proofs.model.Words.{idx}
use Rattle.rules.proofs.model.Abs.{Kind, pt, s1, s2, Role, header, hand, blank, desc, root, lst, tab, Hop, Three, Abs, parts, three_at, GoodHop, Owner, Tabs, WF, tag}
use Rattle.rules.proofs.model.Facts.{good_map, in_range, nil_cons, length-parts, parts_of, differ}
use Rattle.rules.proofs.model.Roles.{tabs_map}

-- a page in o's tables whose first mapping is o's
pub record First (A : Abs) (o p : ℕ) : Type 0 where
  pub hop : Hop
  pub rest : List Hop
  pub is : A.chain p ≡ hop ∷ rest
  pub part : hop.part ≡ o

pub record FillPre (A : Abs) (o D : ℕ) (P : Kind → ℕ) (L : ℕ) : Type 0 where
  pub live : A.role o ≡ desc
  pub shallow : length (A.chain o) < 8
  pub D-blank : A.role D ≡ blank
  pub P-blank : (k : Kind) → A.role (P k) ≡ blank
  pub L-blank : A.role L ≡ blank
  pub D-first : First A o D
  pub P-first : (k : Kind) → First A o (P k)
  pub L-first : First A o L
  pub P-D : (k : Kind) → P k ≢ D
  pub L-D : L ≢ D
  pub P-L : (k : Kind) → P k ≢ L
  pub P-one : (k k' : Kind) → P k ≡ P k' → k ≡ k'

unfoldable pub fill_role : Abs → ℕ → (Kind → ℕ) → ℕ → ℕ → Role
fill_role A D P L = upd (upd (upd (upd (upd A.role (P s2) (root s2 D)) (P s1) (root s1 D)) (P pt) (root pt D)) L (lst D)) D desc

abbrev pub fill_a : Abs → ℕ → (Kind → ℕ) → ℕ → Abs
fill_a A D P L = record {
  role = fill_role A D P L;
  chain = A.chain;
  maps = A.maps;
  rootp = λ k. upd (A.rootp k) D (P k);
  lstp = upd A.lstp D L;
  threes = upd A.threes D [];
  vcli = upd A.vcli D 0;
  cur = A.cur;
}

-- what a page is afterwards
pub data FillView (A : Abs) (D : ℕ) (P : Kind → ℕ) (L q : ℕ) (r : Role) : Type 0 where
  is_D : q ≡ D → r ≡ desc → FillView A D P L q r
  is_P : (k : Kind) → q ≡ P k → r ≡ root k D → FillView A D P L q r
  is_L : q ≡ L → r ≡ lst D → FillView A D P L q r
  is_old : q ≢ D → q ≢ L → ((k : Kind) → q ≢ P k) → r ≡ A.role q → FillView A D P L q r

abbrev pub is_blank : Role → Bool
is_blank header = false
is_blank hand = false
is_blank blank = true
is_blank desc = false
is_blank (root k d) = false
is_blank (lst d) = false
is_blank (tab k d i) = false

pub blanks : {X : Type 0} {r s : Role} → r ≡ blank → r ≡ s → is_blank s ≡ false → X
blanks a β c = let z : ◌≡◌ {A = ℕ} 0 1 = cc in absurd (omega arith)

module _ {b : ℕ} (wide : 6 ≤ b) where
  module _ (N : ℕ) (fl : ℕ → Option ℕ) (A : Abs) (wf : WF b N fl A) (o D : ℕ) (P : Kind → ℕ) (L : ℕ) (pre : FillPre A o D P L) where
    abbrev B : Abs
    B = fill_a A D P L

    pub view : (q : ℕ) → FillView A D P L q (B.role q)
    unfolding fill_role
    view q = go (eqd q D) (eqd q L) (eqd q (P pt)) (eqd q (P s1)) (eqd q (P s2))
      where
        all : q ≢ P pt → q ≢ P s1 → q ≢ P s2 → (k : Kind) → q ≢ P k
        all a β c pt = a
        all a β c s1 = β
        all a β c s2 = c

        go : Dec (q ≡ D) → Dec (q ≡ L) → Dec (q ≡ P pt) → Dec (q ≡ P s1) → Dec (q ≡ P s2) → FillView A D P L q (B.role q)
        go (yes e) β c d f = is_D e (rw e (upd_same _ D desc))
        go (no a) (yes e) c d f = is_L e (upd_other _ D desc q a ∙ (rw e (upd_same _ L (lst D))))
        go (no a) (no β) (yes e) d f = is_P pt e (upd_other _ D desc q a ∙ upd_other _ L (lst D) q β ∙ (rw e (upd_same _ (P pt) (root pt D))))
        go (no a) (no β) (no c) (yes e) f = is_P s1 e (upd_other _ D desc q a ∙ upd_other _ L (lst D) q β ∙ upd_other _ (P pt) (root pt D) q c ∙ (rw e (upd_same _ (P s1) (root s1 D))))
        go (no a) (no β) (no c) (no d) (yes e) = is_P s2 e (upd_other _ D desc q a ∙ upd_other _ L (lst D) q β ∙ upd_other _ (P pt) (root pt D) q c ∙ upd_other _ (P s1) (root s1 D) q d ∙ (rw e (upd_same _ (P s2) (root s2 D))))
        go (no a) (no β) (no c) (no d) (no f) = is_old a β (all c d f) (upd_other _ D desc q a ∙ upd_other _ L (lst D) q β ∙ upd_other _ (P pt) (root pt D) q c ∙ upd_other _ (P s1) (root s1 D) q d ∙ upd_other _ (P s2) (root s2 D) q f)

    pub at-D : B.role D ≡ desc
    unfolding fill_role
    at-D = upd_same _ D desc

    pub at-L : B.role L ≡ lst D
    unfolding fill_role
    at-L = upd_other _ D desc L pre.L-D ∙ upd_same _ L (lst D)

    pub at-P : (k : Kind) → B.role (P k) ≡ root k D
    at-P k = go (view (P k))
      where
        go : FillView A D P L (P k) (B.role (P k)) → B.role (P k) ≡ root k D
        go (is_D e r) = absurd (pre.P-D k e)
        go (is_P k' e r) = r ∙ ap (λ (z : Kind). root z D) (sym (pre.P-one k k' e))
        go (is_L e r) = absurd (pre.P-L k e)
        go (is_old a β c r) = absurd (c k refl)

    -- what was in use stays
    pub keep : (q : ℕ) (r : Role) → A.role q ≡ r → is_blank r ≡ false → B.role q ≡ r
    keep q r e n = go (view q)
      where
        go : FillView A D P L q (B.role q) → B.role q ≡ r
        go (is_D x y) = blanks pre.D-blank (rw x at e) n
        go (is_P k x y) = blanks (pre.P-blank k) (rw x at e) n
        go (is_L x y) = blanks pre.L-blank (rw x at e) n
        go (is_old a β c y) = y ∙ e

    not-D : (d : ℕ) (r : Role) → A.role d ≡ r → is_blank r ≡ false → d ≢ D
    not-D d r e n x = blanks pre.D-blank (rw x at e) n

    fill-hop : (q : ℕ) (h : Hop) (hs : List Hop) → GoodHop b A q h hs → GoodHop b B q h hs
    fill-hop q h hs g = record {
      live = keep h.part desc g.live refl;
      some_v = g.some_v;
      small = g.small;
      mapped = g.mapped;
      above = g.above;
      three = (g.three.0, ap (three_at (idx b h.vp)) (upd_other A.threes D [] h.part (not-D h.part desc g.live refl)) ∙ g.three.1);
      rights = g.rights;
    }

    -- the partitions, old and new
    old_or_D : {X : Type 0} (d : ℕ) → B.role d ≡ desc → (d ≡ D → X) → (A.role d ≡ desc → d ≢ D → X) → X
    old_or_D {X} d e new old = go (view d)
      where
        go : FillView A D P L d (B.role d) → X
        go (is_D x y) = new x
        go (is_P k x y) = differ (sym y ∙ e) (omega arith)
        go (is_L x y) = differ (sym y ∙ e) (omega arith)
        go (is_old a β c y) = old (sym y ∙ e) a

    -- roles that are not new
    down : (q : ℕ) (r : Role) → B.role q ≡ r → tag r ≢ 3 → tag r ≢ 4 → tag r ≢ 5 → A.role q ≡ r
    down q r e a β c = go (view q)
      where
        go : FillView A D P L q (B.role q) → A.role q ≡ r
        go (is_D x y) = absurd (a (ap tag (sym e ∙ y)))
        go (is_P k x y) = absurd (β (ap tag (sym e ∙ y)))
        go (is_L x y) = absurd (c (ap tag (sym e ∙ y)))
        go (is_old _ _ _ y) = sym y ∙ e

    fill-root : (k : Kind) (d : ℕ) → B.role d ≡ desc → B.role (B.rootp k d) ≡ root k d
    fill-root k d l = old_or_D d l
        (λ x. rw (x, upd_same (A.rootp k) D (P k)) (at-P k))
        (λ y n. rw (upd_other (A.rootp k) D (P k) d n) (keep (A.rootp k d) (root k d) (wf.root_role k d y) refl))

    fill-root-inv : (k : Kind) (d q : ℕ) → B.role q ≡ root k d → (B.role d ≡ desc) × (B.rootp k d ≡ q)
    fill-root-inv k d q e = go (view q)
      where
        go : FillView A D P L q (B.role q) → (B.role d ≡ desc) × (B.rootp k d ≡ q)
        go (is_D x y) = differ (sym e ∙ y) (omega arith)
        go (is_P j x y) =
            let w : root j D ≡ root k d = sym y ∙ e in
            let a : D ≡ d = cc in
            let β : j ≡ k = cc in
            (rw (← a) at-D, rw (← a) (upd_same (A.rootp k) D (P k) ∙ (rw (← β) (sym x))))
        go (is_L x y) = differ (sym e ∙ y) (omega arith)
        go (is_old _ _ _ y) =
            let i = wf.root_inv k d q (sym y ∙ e) in
            (keep d desc i.0 refl, upd_other (A.rootp k) D (P k) d (not-D d desc i.0 refl) ∙ i.1)

    fill-lst : (d : ℕ) → B.role d ≡ desc → B.role (B.lstp d) ≡ lst d
    fill-lst d l = old_or_D d l
        (λ x. rw (x, upd_same A.lstp D L) at-L)
        (λ y n. rw (upd_other A.lstp D L d n) (keep (A.lstp d) (lst d) (wf.lst_role d y) refl))

    fill-lst-inv : (d q : ℕ) → B.role q ≡ lst d → (B.role d ≡ desc) × (B.lstp d ≡ q)
    fill-lst-inv d q e = go (view q)
      where
        go : FillView A D P L q (B.role q) → (B.role d ≡ desc) × (B.lstp d ≡ q)
        go (is_D x y) = differ (sym e ∙ y) (omega arith)
        go (is_P j x y) = differ (sym e ∙ y) (omega arith)
        go (is_L x y) =
            let w : lst D ≡ lst d = sym y ∙ e in
            let a : D ≡ d = cc in
            (rw (← a) at-D, rw (← a) (upd_same A.lstp D L ∙ sym x))
        go (is_old _ _ _ y) =
            let i = wf.lst_inv d q (sym y ∙ e) in
            (keep d desc i.0 refl, upd_other A.lstp D L d (not-D d desc i.0 refl) ∙ i.1)

    fill-tabs : (d : ℕ) → B.role d ≡ desc → Tabs b B.role d (B.threes d)
    fill-tabs d l = old_or_D d l
        (λ x. rw (x, upd_same A.threes D []) tt)
        (λ y n. rw (upd_other A.threes D [] d n) (tabs_map wide A.role B.role d (A.threes d) (λ k i q e. keep q (tab k d i) e refl) (wf.tabs d y)))

    fill-tab-inv : (k : Kind) (d i q : ℕ) → B.role q ≡ tab k d i → (B.role d ≡ desc) × (t : Three) × (three_at i (B.threes d) ≡ some t) × (t.page k ≡ q)
    fill-tab-inv k d i q e =
        let x = wf.tab_inv k d i q (down q (tab k d i) e (omega arith) (omega arith) (omega arith)) in
        (keep d desc x.0 refl, x.1, ap (three_at i) (upd_other A.threes D [] d (not-D d desc x.0 refl)) ∙ x.2, x.3)

    -- the new kernel pages are first mapped in o
    first-parts : (p : ℕ) → First A o p → parts (A.chain p) ≡ o ∷ parts (A.chain o)
    first-parts p x = parts_of wide N fl A wf p o x.hop x.rest x.is x.part

    fill-kernel : (q d : ℕ) → Owner (B.role q) q d → parts (A.chain q) ≡ parts (A.chain d)
    fill-kernel q d w = go (view q)
      where
        go : FillView A D P L q (B.role q) → parts (A.chain q) ≡ parts (A.chain d)
        go (is_D x y) = ap (λ (z : ℕ). parts (A.chain z)) (subst (λ (r : Role). Owner r q d) y w)
        go (is_P j x y) =
            let z : D ≡ d = subst (λ (r : Role). Owner r q d) y w in
            rw (x, ← z) (first-parts (P j) (pre.P-first j) ∙ sym (first-parts D pre.D-first))
        go (is_L x y) =
            let z : D ≡ d = subst (λ (r : Role). Owner r q d) y w in
            rw (x, ← z) (first-parts L pre.L-first ∙ sym (first-parts D pre.D-first))
        go (is_old _ _ _ y) = wf.kernel q d (subst (λ (r : Role). Owner r q d) y w)

    fill-depth : (d : ℕ) → B.role d ≡ desc → length (A.chain d) ≤ 8
    fill-depth d l = old_or_D d l
        (λ x. rw x (omega (arith, pre.shallow, ap length (first-parts D pre.D-first), length-parts (A.chain D), length-parts (A.chain o))))
        (λ y n. wf.depth d y)

    fill-beyond : (q : ℕ) → N ≤ q → B.role q ≡ hand
    fill-beyond q l = go (view q)
      where
        out : (p : ℕ) → q ≡ p → First A o p → B.role q ≡ hand
        out p e x = absurd (omega (arith, in_range wide N fl A wf p x.hop x.rest x.is))

        go : FillView A D P L q (B.role q) → B.role q ≡ hand
        go (is_D x y) = out D x pre.D-first
        go (is_P j x y) = out (P j) x (pre.P-first j)
        go (is_L x y) = out L x pre.L-first
        go (is_old _ _ _ y) = y ∙ (wf.beyond q l).0

    pub fill-wf : WF b N fl B
    fill-wf = record {
      beyond = λ q l. (fill-beyond q l, (wf.beyond q l).1);
      head_role = keep 0 header wf.head_role refl;
      head_only = λ q e. wf.head_only q (down q header e (omega arith) (omega arith) (omega arith));
      head_chain = wf.head_chain;
      root_live = keep 1 desc wf.root_live refl;
      root_top = wf.root_top;
      root_only = λ d l e. old_or_D d l (λ x. nil_cons (sym (rw x at e) ∙ pre.D-first.is)) (λ y n. wf.root_only d y e);
      good = λ q. good_map wide A B q (length (A.chain q)) (A.chain q) (omega arith) (λ h hs l g. fill-hop q h hs g) (wf.good q);
      seen = wf.seen;
      root_role = fill-root;
      root_inv = fill-root-inv;
      lst_role = fill-lst;
      lst_inv = fill-lst-inv;
      tabs = fill-tabs;
      tab_inv = fill-tab-inv;
      kernel = fill-kernel;
      held = λ q e l. wf.held q (down q hand e (omega arith) (omega arith) (omega arith)) l;
      top_maps = wf.top_maps;
      depth = fill-depth;
      ten = λ d l. old_or_D d l (λ x. rw (x, upd_same A.threes D []) (omega arith)) (λ y n. rw (upd_other A.threes D [] d n) (wf.ten d y));
      cur_live = keep A.cur desc wf.cur_live refl;
    }
