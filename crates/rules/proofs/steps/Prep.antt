-- Three blank pages become the tables of partition c at directory index i.
use mathlib.Core.Path.{◌≡◌, refl, sym, ap, ◌∙◌, subst}
use mathlib.Core.Logic.{◌≢◌}
use mathlib.Core.Bool.{false}
use mathlib.Core.Option.{Option, none, some}
use mathlib.Core.List.{List, [], ◌∷◌, ◌++◌}
use Prim.Native.Nat.{ℕ, ◌≤◌, ◌<◌}
use native.Mathlib.Omega.{arith}
use lib.ListN.{length}
use Rattle.rules.proofs.model.Base.{eqd, pick_yes, pick_no, upd, upd_same, upd_other}
use Rattle.rules.proofs.model.Words.{W, idx}
use Rattle.rules.proofs.model.Abs.{Kind, pt, s1, s2, Role, header, hand, blank, desc, root, lst, tab, Hop, Three, Abs, parts, three_at, GoodHop, Owner, Tabs, WF, tag}
use Rattle.rules.proofs.model.Facts.{good_map, in_range, none-some, parts_of}
use Rattle.rules.proofs.model.Roles.{tabs_map}
use Rattle.rules.proofs.steps.Fill.{First, is_blank, blanks}
use lib.ListN.{length-append}

module _ (b : ℕ) where
  pub record PrepPre (A : Abs) (o c i : ℕ) (P : Kind → ℕ) : Type 0 where
    pub live : A.role c ≡ desc
    pub child : First A o c
    pub fits : i < W b
    pub room : length (A.threes c) < 10
    pub new : three_at i (A.threes c) ≡ none
    pub P-blank : (k : Kind) → A.role (P k) ≡ blank
    pub P-first : (k : Kind) → First A o (P k)
    pub P-one : (k k' : Kind) → P k ≡ P k' → k ≡ k'

unfoldable pub prep_role : Abs → ℕ → ℕ → (Kind → ℕ) → ℕ → Role
prep_role A c i P = upd (upd (upd A.role (P s2) (tab s2 c i)) (P s1) (tab s1 c i)) (P pt) (tab pt c i)

abbrev pub new_three : ℕ → (Kind → ℕ) → Three
new_three i P = record { at = i; page = P }

abbrev pub prep_a : Abs → ℕ → ℕ → (Kind → ℕ) → Abs
prep_a A c i P = record {
  role = prep_role A c i P;
  chain = A.chain;
  maps = A.maps;
  rootp = A.rootp;
  lstp = A.lstp;
  threes = upd A.threes c (A.threes c ++ new_three i P ∷ []);
  vcli = A.vcli;
  cur = A.cur;
}

pub data PrepView (A : Abs) (c i : ℕ) (P : Kind → ℕ) (q : ℕ) (r : Role) : Type 0 where
  is_P : (k : Kind) → q ≡ P k → r ≡ tab k c i → PrepView A c i P q r
  is_old : ((k : Kind) → q ≢ P k) → r ≡ A.role q → PrepView A c i P q r

-- a three more at the end
pub at_here : (i : ℕ) (t : Three) (ts : List Three) → i ≡ t.at → three_at i (t ∷ ts) ≡ some t
unfolding three_at
at_here i t ts e = pick_yes (eqd i t.at) _ _ e

pub at_on : (i : ℕ) (t : Three) (ts : List Three) → i ≢ t.at → three_at i (t ∷ ts) ≡ three_at i ts
unfolding three_at
at_on i t ts e = pick_no (eqd i t.at) _ _ e

pub at_nil : (i : ℕ) → three_at i [] ≡ none
unfolding three_at
at_nil i = refl

pub at_append : (i : ℕ) (ts : List Three) (x y : Three) → three_at i ts ≡ some x → three_at i (ts ++ y ∷ []) ≡ some x
at_append i [] x y e = none-some (sym (at_nil i) ∙ e)
at_append i (t ∷ ts) x y e = go (eqd i t.at) (λ z. at_append i ts x y z)
  where
    go : Dec (i ≡ t.at) → (three_at i ts ≡ some x → three_at i (ts ++ y ∷ []) ≡ some x) → three_at i (t ∷ (ts ++ y ∷ [])) ≡ some x
    go (yes z) ih = at_here i t _ z ∙ sym (at_here i t ts z) ∙ e
    go (no z) ih = at_on i t _ z ∙ ih (sym (at_on i t ts z) ∙ e)

pub at_last : (i : ℕ) (ts : List Three) (y : Three) → three_at i ts ≡ none → three_at i (ts ++ y ∷ []) ≡ three_at i (y ∷ [])
at_last i [] y e = refl
at_last i (t ∷ ts) y e = go (eqd i t.at) (λ z. at_last i ts y z)
  where
    go : Dec (i ≡ t.at) → (three_at i ts ≡ none → three_at i (ts ++ y ∷ []) ≡ three_at i (y ∷ [])) → three_at i (t ∷ (ts ++ y ∷ [])) ≡ three_at i (y ∷ [])
    go (yes z) ih = none-some (sym e ∙ at_here i t ts z)
    go (no z) ih = at_on i t _ z ∙ ih (sym (at_on i t ts z) ∙ e)

module _ {b : ℕ} (wide : 6 ≤ b) where
  pub tabs_append : (role : ℕ → Role) (d : ℕ) (ts : List Three) (y : Three) → Tabs b role d ts → y.at < W b → ((k : Kind) → role (y.page k) ≡ tab k d y.at) → three_at y.at ts ≡ none → Tabs b role d (ts ++ y ∷ [])
  tabs_append role d [] y g β h n = (record { fits = β; pages = h; once = at_nil y.at }, tt)
  tabs_append role d (t ∷ ts) y g β h n =
      let ne : y.at ≢ t.at = λ e. none-some (sym n ∙ at_here y.at t ts e) in (
        record { fits = g.0.fits; pages = g.0.pages; once = at_last t.at ts y g.0.once ∙ at_on t.at y [] (λ e. ne (sym e)) ∙ at_nil t.at },
        tabs_append role d ts y g.1 β h (sym (at_on y.at t ts ne) ∙ n),
      )

  module _ (N : ℕ) (fl : ℕ → Option ℕ) (A : Abs) (wf : WF b N fl A) (o c i : ℕ) (P : Kind → ℕ) (pre : PrepPre b A o c i P) where
    abbrev B : Abs
    B = prep_a A c i P

    pub view : (q : ℕ) → PrepView A c i P q (B.role q)
    unfolding prep_role
    view q = go (eqd q (P pt)) (eqd q (P s1)) (eqd q (P s2))
      where
        all : q ≢ P pt → q ≢ P s1 → q ≢ P s2 → (k : Kind) → q ≢ P k
        all a β c pt = a
        all a β c s1 = β
        all a β c s2 = c

        go : Dec (q ≡ P pt) → Dec (q ≡ P s1) → Dec (q ≡ P s2) → PrepView A c i P q (B.role q)
        go (yes e) β d = is_P pt e (rw e (upd_same _ (P pt) (tab pt c i)))
        go (no a) (yes e) d = is_P s1 e (upd_other _ (P pt) (tab pt c i) q a ∙ (rw e (upd_same _ (P s1) (tab s1 c i))))
        go (no a) (no β) (yes e) = is_P s2 e (upd_other _ (P pt) (tab pt c i) q a ∙ upd_other _ (P s1) (tab s1 c i) q β ∙ (rw e (upd_same _ (P s2) (tab s2 c i))))
        go (no a) (no β) (no d) = is_old (all a β d) (upd_other _ (P pt) (tab pt c i) q a ∙ upd_other _ (P s1) (tab s1 c i) q β ∙ upd_other _ (P s2) (tab s2 c i) q d)

    pub at-P : (k : Kind) → B.role (P k) ≡ tab k c i
    at-P k = go (view (P k))
      where
        go : PrepView A c i P (P k) (B.role (P k)) → B.role (P k) ≡ tab k c i
        go (is_P k' e r) = r ∙ ap (λ (z : Kind). tab z c i) (sym (pre.P-one k k' e))
        go (is_old a r) = absurd (a k refl)

    pub keep : (q : ℕ) (r : Role) → A.role q ≡ r → is_blank r ≡ false → B.role q ≡ r
    keep q r e n = go (view q)
      where
        go : PrepView A c i P q (B.role q) → B.role q ≡ r
        go (is_P k x y) = blanks (pre.P-blank k) (rw x at e) n
        go (is_old a y) = y ∙ e

    down : (q : ℕ) (r : Role) → B.role q ≡ r → tag r ≢ 6 → A.role q ≡ r
    down q r e n = go (view q)
      where
        go : PrepView A c i P q (B.role q) → A.role q ≡ r
        go (is_P k x y) = absurd (n (ap tag (sym e ∙ y)))
        go (is_old _ y) = sym y ∙ e

    -- tables that are there stay
    pub threes-keep : (d j : ℕ) (t : Three) → three_at j (A.threes d) ≡ some t → three_at j (B.threes d) ≡ some t
    threes-keep d j t e = go (eqd d c)
      where
        go : Dec (d ≡ c) → three_at j (B.threes d) ≡ some t
        go (yes y) = rw (y, upd_same A.threes c (A.threes c ++ new_three i P ∷ [])) (at_append j (A.threes c) t (new_three i P) (rw y at e))
        go (no n) = rw (upd_other A.threes c (A.threes c ++ new_three i P ∷ []) d n) e

    pub threes-new : three_at i (B.threes c) ≡ some (new_three i P)
    threes-new = ap (three_at i) (upd_same A.threes c (A.threes c ++ new_three i P ∷ [])) ∙ at_last i (A.threes c) (new_three i P) pre.new ∙ at_here i (new_three i P) [] refl

    first-parts : (p : ℕ) → First A o p → parts (A.chain p) ≡ o ∷ parts (A.chain o)
    first-parts p x = parts_of wide N fl A wf p o x.hop x.rest x.is x.part

    prep_beyond : (q : ℕ) → N ≤ q → B.role q ≡ hand
    prep_beyond q l = go (view q)
      where
        go : PrepView A c i P q (B.role q) → B.role q ≡ hand
        go (is_P k x y) = absurd (omega (arith, in_range wide N fl A wf (P k) (pre.P-first k).hop (pre.P-first k).rest (pre.P-first k).is))
        go (is_old _ y) = y ∙ (wf.beyond q l).0

    prep_hop : (q : ℕ) (h : Hop) (hs : List Hop) → GoodHop b A q h hs → GoodHop b B q h hs
    prep_hop q h hs g = record { live = keep h.part desc g.live refl; some_v = g.some_v; small = g.small; mapped = g.mapped; above = g.above; three = (g.three.0, threes-keep h.part (idx b h.vp) g.three.0 g.three.1); rights = g.rights }

    prep_tabs : (d : ℕ) → B.role d ≡ desc → Tabs b B.role d (B.threes d)
    prep_tabs d l = go (eqd d c)
      where
        old : Tabs b B.role d (A.threes d)
        old = tabs_map wide A.role B.role d (A.threes d) (λ k j q e. keep q (tab k d j) e refl) (wf.tabs d (down d desc l (omega arith)))

        go : Dec (d ≡ c) → Tabs b B.role d (B.threes d)
        go (yes y) = rw (y, upd_same A.threes c (A.threes c ++ new_three i P ∷ [])) (tabs_append B.role c (A.threes c) (new_three i P) (rw y at old) pre.fits at-P pre.new)
        go (no n) = rw (upd_other A.threes c (A.threes c ++ new_three i P ∷ []) d n) old

    prep_tab-inv : (k : Kind) (d j q : ℕ) → B.role q ≡ tab k d j → (B.role d ≡ desc) × (t : Three) × (three_at j (B.threes d) ≡ some t) × (t.page k ≡ q)
    prep_tab-inv k d j q e = go (view q)
      where
        go : PrepView A c i P q (B.role q) → (B.role d ≡ desc) × (t : Three) × (three_at j (B.threes d) ≡ some t) × (t.page k ≡ q)
        go (is_P k' x y) =
            let w : tab k' c i ≡ tab k d j = sym y ∙ e in
            let a : c ≡ d = cc in
            let β : i ≡ j = cc in
            let z : k' ≡ k = cc in
            (rw (← a) (keep c desc pre.live refl), new_three i P, rw (← a, ← β) threes-new, rw (← z) (sym x))
        go (is_old _ y) =
            let x = wf.tab_inv k d j q (sym y ∙ e) in
            (keep d desc x.0 refl, x.1, threes-keep d j x.1 x.2, x.3)

    prep_kernel : (q d : ℕ) → Owner (B.role q) q d → parts (A.chain q) ≡ parts (A.chain d)
    prep_kernel q d w = go (view q)
      where
        go : PrepView A c i P q (B.role q) → parts (A.chain q) ≡ parts (A.chain d)
        go (is_P k x y) =
            let z : c ≡ d = subst (λ (r : Role). Owner r q d) y w in
            rw (x, ← z) (first-parts (P k) (pre.P-first k) ∙ sym (first-parts c pre.child))
        go (is_old _ y) = wf.kernel q d (subst (λ (r : Role). Owner r q d) y w)

    prep_ten : (d : ℕ) → B.role d ≡ desc → length (B.threes d) ≤ 10
    prep_ten d l = go (eqd d c)
      where
        go : Dec (d ≡ c) → length (B.threes d) ≤ 10
        go (yes y) = rw (y, upd_same A.threes c (A.threes c ++ new_three i P ∷ []), length-append) (omega (arith, pre.room))
        go (no n) = rw (upd_other A.threes c (A.threes c ++ new_three i P ∷ []) d n) (wf.ten d (down d desc l (omega arith)))

    pub prep_wf : WF b N fl B
    prep_wf = record {
      beyond = λ q l. (prep_beyond q l, (wf.beyond q l).1);
      head_role = keep 0 header wf.head_role refl;
      head_only = λ q e. wf.head_only q (down q header e (omega arith));
      head_chain = wf.head_chain;
      root_live = keep 1 desc wf.root_live refl;
      root_top = wf.root_top;
      root_only = λ d l e. wf.root_only d (down d desc l (omega arith)) e;
      good = λ q. good_map wide A B q (length (A.chain q)) (A.chain q) (omega arith) (λ h hs l g. prep_hop q h hs g) (wf.good q);
      seen = wf.seen;
      root_role = λ k d l. keep (A.rootp k d) (root k d) (wf.root_role k d (down d desc l (omega arith))) refl;
      root_inv = λ k d q e. let x = wf.root_inv k d q (down q (root k d) e (omega arith)) in (keep d desc x.0 refl, x.1);
      lst_role = λ d l. keep (A.lstp d) (lst d) (wf.lst_role d (down d desc l (omega arith))) refl;
      lst_inv = λ d q e. let x = wf.lst_inv d q (down q (lst d) e (omega arith)) in (keep d desc x.0 refl, x.1);
      tabs = prep_tabs;
      tab_inv = prep_tab-inv;
      kernel = prep_kernel;
      held = λ q e l. wf.held q (down q hand e (omega arith)) l;
      top_maps = wf.top_maps;
      depth = λ d l. wf.depth d (down d desc l (omega arith));
      ten = prep_ten;
      cur_live = keep A.cur desc wf.cur_live refl;
    }
