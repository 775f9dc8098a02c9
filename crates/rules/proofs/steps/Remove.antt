-- removeVAddr: the first hop of the page's chain is dropped. It is add_vaddr undone, and the words follow from that.
use mathlib.Core.Path.{◌≡◌, refl, sym, ap, ◌∙◌, subst}
use mathlib.Core.Logic.{◌≢◌}
use mathlib.Core.Option.{Option, none, some}
use mathlib.Core.List.{List, [], ◌∷◌}
use Prim.Native.Nat.{ℕ, suc, ◌≤◌, ◌<◌}
use native.Mathlib.Omega.{arith}
use lib.ListN.{length}
use Rattle.rules.proofs.model.Base.{eqd, both, upd, upd_same, upd_other, upd2, upd2-same, upd2-other}
use Rattle.rules.proofs.model.Words.{W, addr, put, idx, off, page_of, acc_of, page_of-addr}
use Rattle.rules.proofs.model.Abs.{Kind, pt, s1, s2, hand, desc, tab, Hop, Three, Abs, parts, head_v, Seen, seek, three_at, GoodHop, Good, WF, Cells, Encodes, is_hand, own_word, lent_word, seen_word, cell}
use Rattle.rules.proofs.model.Apart.{cons_head}
use Rattle.rules.proofs.model.Facts.{seek-here, seek-on, none-some, some_inj, nil_cons, not-hand, hand-desc, hand-header, Like, like, good_map, owner-hand, owner-live, parts_of, in_range, not_root, length-parts}
use Rattle.rules.proofs.model.Cells.{upd_c, put-cell, tab-one, rechain, rechained, undo}
use Rattle.rules.proofs.steps.Add.{AddPre, new_hop, add_a}
use Rattle.rules.proofs.steps.AddWords.{add-cells}
use Rattle.rules.proofs.model.Read.{table_page, entry_at, entry-is, entry-three, cell-none, cell-some, kernel-lt, Own, hand-view, child-view}

pub record RemPre (A : Abs) (o p c t r : ℕ) (hop : Hop) (rest : List Hop) : Type 0 where
  pub in-hand : A.role p ≡ hand
  pub is : A.chain p ≡ new_hop c t r ∷ (hop ∷ rest)
  pub child : A.role c ≡ desc
  pub chop : Hop
  pub crest : List Hop
  pub cis : A.chain c ≡ chop ∷ crest
  pub cmine : chop.part ≡ o

abbrev pub rem_a : Abs → ℕ → ℕ → ℕ → Hop → List Hop → Abs
rem_a A p c t hop rest = rechain A (upd A.chain p (hop ∷ rest)) (upd2 A.maps c t none)

module _ {b : ℕ} (wide : 6 ≤ b) where
  module _ (N : ℕ) (fl : ℕ → Option ℕ) (A : Abs) (wf : WF b N fl A) (o p c t r : ℕ) (hop : Hop) (rest : List Hop) (pre : RemPre A o p c t r hop rest) where
    abbrev B : Abs
    B = rem_a A p c t hop rest

    keep : (q : ℕ) → A.role q ≢ hand → B.chain q ≡ A.chain q
    keep q h = upd_other A.chain p _ q (λ e. h (rw e pre.in-hand))

    keep-desc : (q : ℕ) → A.role q ≡ desc → B.chain q ≡ A.chain q
    keep-desc q h = keep q (λ e. hand-desc e h)

    g : GoodHop b A p (new_hop c t r) (hop ∷ rest) × (GoodHop b A p hop rest × Good b A p rest)
    g = subst (Good b A p) pre.is (wf.good p)

    mine : hop.part ≡ o
    mine = cons_head (g.0.above ∙ parts_of wide N fl A wf c o pre.chop pre.crest pre.cis pre.cmine)

    there : A.maps c t ≡ some p
    there = g.0.mapped

    rem_hop : (q : ℕ) (h : Hop) (hs : List Hop) → (q ≡ p → h.part ≢ c) → GoodHop b A q h hs → GoodHop b B q h hs
    rem_hop q h hs n g = record {
      live = g.live;
      some_v = g.some_v;
      small = g.small;
      mapped = upd2-other A.maps c t none h.part h.vp (λ e. n (some_inj (sym g.mapped ∙ (rw (e.0, e.1) there))) e.0) ∙ g.mapped;
      above = g.above ∙ ap parts (sym (keep-desc h.part g.live));
      three = g.three;
      rights = g.rights;
    }

    -- above the child the child does not occur
    up-other : (h : Hop) (hs : List Hop) → length hs < suc (length rest) → GoodHop b A p h hs → h.part ≢ c
    up-other h hs l k e =
        let a : parts hs ≡ parts (A.chain c) = rw e at k.above in
        omega (arith, ap length a, ap length g.0.above, length-parts hs, length-parts rest)

    rem_good : (q : ℕ) → Good b B q (B.chain q)
    rem_good q = go (eqd q p)
      where
        go : Dec (q ≡ p) → Good b B q (B.chain q)
        go (no n) = rw (upd_other A.chain p (hop ∷ rest) q n) (good_map wide A B q (length (A.chain q)) (A.chain q) (omega arith) (λ h hs l k. rem_hop q h hs (λ e. absurd (n e)) k) (wf.good q))
        go (yes e) = rw (e, upd_same A.chain p (hop ∷ rest)) (good_map wide A B p (suc (length rest)) (hop ∷ rest) (omega arith) (λ h hs l k. rem_hop p h hs (λ _. up-other h hs l k) k) g.1)

    rem_seen : (d v q : ℕ) → B.maps d v ≡ some q → (s : Seen) × (seek none d (B.chain q) ≡ some s) × (s.vp ≡ v)
    rem_seen d v q e = go (both (eqd d c) (eqd v t))
      where
        go : Dec ((d ≡ c) × (v ≡ t)) → (s : Seen) × (seek none d (B.chain q) ≡ some s) × (s.vp ≡ v)
        go (yes y) = none-some (sym (upd2-same A.maps c t none) ∙ (rw (y.0, y.1) at e))
        go (no n) = on was.0 was.1 was.2 (eqd q p)
          where
            was : (s : Seen) × (seek none d (A.chain q) ≡ some s) × (s.vp ≡ v)
            was = wf.seen d v q (sym (upd2-other A.maps c t none d v n) ∙ e)

            on : (s : Seen) → seek none d (A.chain q) ≡ some s → s.vp ≡ v → Dec (q ≡ p) → (s : Seen) × (seek none d (B.chain q) ≡ some s) × (s.vp ≡ v)
            on s w z (no x) = (s, rw (upd_other A.chain p (hop ∷ rest) q x) w, z)
            on s w z (yes x) =
                let w' : seek none d (new_hop c t r ∷ (hop ∷ rest)) ≡ some s = rw (x, pre.is) at w in
                let k : d ≢ c = λ y. n (y, sym z ∙ ap (λ (u : Seen). u.vp) (some_inj (sym w' ∙ seek-here none d (new_hop c t r) (hop ∷ rest) y))) in
                let l : Like none d (hop ∷ rest) s = like (some c) none d (hop ∷ rest) s (sym (seek-on none d (new_hop c t r) (hop ∷ rest) k) ∙ w') in
                (l.to, rw (x, upd_same A.chain p (hop ∷ rest)) l.finds, l.vp ∙ z)

    rem_held : (q : ℕ) → A.role q ≡ hand → q < N → B.chain q ≢ []
    rem_held q h l e = go (eqd q p)
      where
        go : Dec (q ≡ p) → ⊥
        go (yes x) = nil_cons (sym (rw x at e) ∙ upd_same A.chain p (hop ∷ rest))
        go (no x) = wf.held q h l (sym (upd_other A.chain p _ q x) ∙ e)

    pub rem_wf : WF b N fl B
    rem_wf = record {
      beyond = λ q l. ((wf.beyond q l).0, upd_other A.chain p _ q (λ e. omega (arith, in_range wide N fl A wf p (new_hop c t r) (hop ∷ rest) pre.is)) ∙ (wf.beyond q l).1);
      head_role = wf.head_role;
      head_only = wf.head_only;
      head_chain = keep 0 (λ e. hand-header e wf.head_role) ∙ wf.head_chain;
      root_live = wf.root_live;
      root_top = keep-desc 1 wf.root_live ∙ wf.root_top;
      root_only = λ d l e. wf.root_only d l (sym (keep-desc d l) ∙ e);
      good = rem_good;
      seen = rem_seen;
      root_role = wf.root_role;
      root_inv = wf.root_inv;
      lst_role = wf.lst_role;
      lst_inv = wf.lst_inv;
      tabs = wf.tabs;
      tab_inv = wf.tab_inv;
      kernel = λ q d o. rw (keep q (λ e. owner-hand A q d e o), keep-desc d (owner-live wide N fl A wf q d o)) (wf.kernel q d o);
      held = rem_held;
      top_maps = λ v. upd2-other A.maps c t none 1 v (λ e. not_root wide N fl A wf c pre.chop pre.crest pre.cis e.0) ∙ wf.top_maps v;
      depth = λ d l. rw (keep-desc d l) (wf.depth d l);
      ten = wf.ten;
      cur_live = wf.cur_live;
    }

    -- the page can be added again, and that gives back the state
    rem_pre : AddPre b B o p c t r
    rem_pre = record {
      in-hand = pre.in-hand;
      hop = hop;
      rest = rest;
      is = upd_same A.chain p (hop ∷ rest);
      mine = mine;
      child = pre.child;
      chop = pre.chop;
      crest = pre.crest;
      cis = keep-desc c pre.child ∙ pre.cis;
      cmine = pre.cmine;
      some_t = g.0.some_v;
      small = g.0.small;
      right = g.0.rights;
      three = g.0.three;
      free = upd2-same A.maps c t none;
    }

    back-chain : (q : ℕ) → (add_a B p c t r).chain q ≡ A.chain q
    back-chain q = go (eqd q p)
      where
        go : Dec (q ≡ p) → (add_a B p c t r).chain q ≡ A.chain q
        go (yes e) = rw (e, upd_same B.chain p (new_hop c t r ∷ B.chain p), upd_same A.chain p (hop ∷ rest)) (sym pre.is)
        go (no n) = upd_other B.chain p _ q n ∙ upd_other A.chain p (hop ∷ rest) q n

    back-maps : (d v : ℕ) → (add_a B p c t r).maps d v ≡ A.maps d v
    back-maps d v = go (both (eqd d c) (eqd v t))
      where
        go : Dec ((d ≡ c) × (v ≡ t)) → (add_a B p c t r).maps d v ≡ A.maps d v
        go (yes y) = rw (y.0, y.1, upd2-same B.maps c t (some p)) (sym there)
        go (no n) = upd2-other B.maps c t (some p) d v n ∙ upd2-other A.maps c t none d v n

    back : add_a B p c t r ≡ A
    back = λ i. rechain A (λ q. back-chain q i) (λ d v. back-maps d v i)

    -- the three words go back to 0
    abbrev D3 : Cells
    D3 = upd_c (upd_c (upd_c (cell b A) pt c t 0) s2 c t 0) s1 o hop.vp 0

    rem_cells : (k : Kind) (d v : ℕ) → A.role d ≡ desc → cell b B k d v ≡ D3 k d v
    unfolding seen_word lent_word rem_pre
    rem_cells k d v l =
        undo (cell b B) (cell b A) pt c t _ s2 c t _ s1 o hop.vp _ 0 0 0 (cell-none wide B pt c t free) (cell-none wide B s2 c t free) (own ∙ ap own_word pre.in-hand) k d v
        (sym (ap (λ (X : Abs). cell b X k d v) back) ∙ add-cells wide N fl B rem_wf o p c t r rem_pre k d v l)
      where
        free : B.maps c t ≡ none
        free = upd2-same A.maps c t none

        other : ¬ ((o ≡ c) × (hop.vp ≡ t))
        other e = up-other hop rest (omega arith) g.1.0 (mine ∙ e.0)

        own : cell b B s1 o hop.vp ≡ own_word (A.role p)
        own = cell-some wide B s1 o hop.vp p (record { vp = hop.vp; rt = hop.rt; up = head_v rest; below = none })
            (upd2-other A.maps c t none o hop.vp other ∙ (rw mine at g.1.0.mapped))
            (rw (upd_same A.chain p (hop ∷ rest)) (seek-here none o hop rest (sym mine)))

module _ (b : ℕ) where
  -- document 01's effect on the words
  unfoldable pub rem_m : List ℕ → ℕ → ℕ → ℕ → List ℕ
  rem_m m o vc t =
      let c : ℕ = page_of b (entry_at b m pt o vc) in
      let u : ℕ = page_of b (entry_at b m s2 c t) in
      put b (put b (put b m (table_page b m pt c t) (off b t) 0) (table_page b m s2 c t) (off b t) 0) (table_page b m s1 o u) (off b u) 0

  pub record RemChecks (m : List ℕ) (o vc t : ℕ) : Type 0 where
    pub vc_fits : idx b vc < W b
    pub t_fits : idx b t < W b
    pub child : entry_at b m s1 o vc ≡ 1
    pub acc : acc_of (entry_at b m pt (page_of b (entry_at b m pt o vc)) t) ≡ 1
    pub unlent : entry_at b m s1 (page_of b (entry_at b m pt o vc)) t ≡ 0

hop_path : (h : Hop) (c t : ℕ) → h.part ≡ c → h.vp ≡ t → h ≡ new_hop c t h.rt
hop_path h c t a β = λ i. record { part = a i; vp = β i; rt = h.rt }

module _ {b : ℕ} (wide : 6 ≤ b) where
  module _ (N : ℕ) (fl : ℕ → Option ℕ) (f m : List ℕ) (A : Abs) (wf : WF b N fl A) (en : Encodes b N f m A) (o : ℕ) (lo : A.role o ≡ desc) where
    pub record RemView (vc t : ℕ) : Type 0 where
      pub p : ℕ
      pub c : ℕ
      pub r : ℕ
      pub hop : Hop
      pub rest : List Hop
      pub pre : RemPre A o p c t r hop rest
      pub c_is : page_of b (entry_at b m pt o vc) ≡ c
      pub u_is : entry_at b m s2 c t ≡ addr b hop.vp

    pub rem_view : (vc t : ℕ) → RemChecks b m o vc t → RemView vc t
    unfolding seen_word
    rem_view vc t ck = go hv.2.rest refl
      where
        rc : (k : Kind) → entry_at b m k o vc ≡ cell b A k o vc
        rc k = entry-is wide N fl A wf f m en k o vc lo ck.vc_fits

        cv : (c : ℕ) × (A.role c ≡ desc) × Own b A o vc c
        cv = child-view wide N fl A wf o vc (sym (rc s1) ∙ ck.child)

        c : ℕ
        c = cv.0

        c_is : page_of b (entry_at b m pt o vc) ≡ c
        c_is = ap (page_of b) (rc pt) ∙ cv.2.page

        rt : (k : Kind) → entry_at b m k c t ≡ cell b A k c t
        rt k = entry-is wide N fl A wf f m en k c t cv.1 ck.t_fits

        hv : (p : ℕ) × (A.role p ≡ hand) × Own b A c t p
        hv = hand-view wide N fl A wf c t (rw (c_is, rt pt) at ck.acc) (rw (c_is, rt s1) at ck.unlent)

        hop' : Hop
        hop' = hv.2.hop

        above : (rest : List Hop) → hv.2.rest ≡ rest → parts rest ≡ o ∷ parts (A.chain o)
        above rest e =
            let g : Good b A hv.0 (hop' ∷ hv.2.rest) = rw hv.2.is at (wf.good hv.0) in
            rw (← e) (rw hv.2.part at g.0.above) ∙ parts_of wide N fl A wf c o cv.2.hop cv.2.rest cv.2.is cv.2.part

        go : (rest : List Hop) → hv.2.rest ≡ rest → RemView vc t
        go [] e = nil_cons (above [] e)
        go (u ∷ us) e = record {
          p = hv.0;
          c = c;
          r = hop'.rt;
          hop = u;
          rest = us;
          pre = record { in-hand = hv.1; is = hv.2.is ∙ (λ i. hop_path hop' c t hv.2.part hv.2.vp i ∷ e i); child = cv.1; chop = cv.2.hop; crest = cv.2.rest; cis = cv.2.is; cmine = cv.2.part };
          c_is = c_is;
          u_is = rt s2 ∙ cell-some wide A s2 c t hv.0 (record { vp = hop'.vp; rt = hop'.rt; up = u.vp; below = none }) hv.2.maps
              (rw (hv.2.is, e) (seek-here none c hop' (u ∷ us) (sym hv.2.part)));
        }

    rem_at : (p c t r : ℕ) (hop : Hop) (rest : List Hop) (pre : RemPre A o p c t r hop rest)
        → Encodes b N f (put b (put b (put b m (table_page b m pt c t) (off b t) 0) (table_page b m s2 c t) (off b t) 0) (table_page b m s1 o hop.vp) (off b hop.vp) 0) (rem_a A p c t hop rest)
    rem_at p c t r hop rest pre =
        let one = tab-one wide N fl A wf in
        let gg = g wide N fl A wf o p c t r hop rest pre in
        let mi : hop.part ≡ o = mine wide N fl A wf o p c t r hop rest pre in
        let th = gg.0.three in
        let tu : (x : Three) × (three_at (idx b hop.vp) (A.threes o) ≡ some x) = subst (λ (x : ℕ). (y : Three) × (three_at (idx b hop.vp) (A.threes x) ≡ some y)) mi gg.1.0.three in
        let a = entry-three wide N fl A wf f m (cell b A) en pt c t th.0 pre.child th.1 in
        let β = entry-three wide N fl A wf f m (cell b A) en s2 c t th.0 pre.child th.1 in
        let e = entry-three wide N fl A wf f m (cell b A) en s1 o hop.vp tu.0 lo tu.1 in
        let lt : (q : ℕ) (k : Kind) (d i : ℕ) → A.role q ≡ tab k d i → q < N = λ q k d i h. kernel-lt wide N fl A wf q (ap is_hand h) in
        rechained wide N fl f A wf _ _ (λ q h. keep wide N fl A wf o p c t r hop rest pre q (λ z. not-hand z h)) _ _ (rem_cells wide N fl A wf o p c t r hop rest pre)
        (rw (a.0, β.0, e.0)
        (put-cell wide N f A one _ _ s1 o hop.vp _ _ e.1 (lt _ _ _ _ e.1)
        (put-cell wide N f A one _ _ s2 c t _ _ β.1 (lt _ _ _ _ β.1)
        (put-cell wide N f A one _ _ pt c t _ _ a.1 (lt _ _ _ _ a.1) en))))

    rem_is : (vc t c u : ℕ) → page_of b (entry_at b m pt o vc) ≡ c → entry_at b m s2 c t ≡ addr b u
        → rem_m b m o vc t ≡ put b (put b (put b m (table_page b m pt c t) (off b t) 0) (table_page b m s2 c t) (off b t) 0) (table_page b m s1 o u) (off b u) 0
    unfolding rem_m
    rem_is vc t c u a β = rw (a, β, page_of-addr wide u) refl

    pub rem_words : (vc t : ℕ) (ck : RemChecks b m o vc t) → (w : RemView vc t) × WF b N fl (rem_a A w.p w.c t w.hop w.rest) × Encodes b N f (rem_m b m o vc t) (rem_a A w.p w.c t w.hop w.rest)
    rem_words vc t ck =
        let w : RemView vc t = rem_view vc t ck in
        (w, rem_wf wide N fl A wf o w.p w.c t w.r w.hop w.rest w.pre, rw (rem_is vc t w.c w.hop.vp w.c_is w.u_is) (rem_at w.p w.c t w.r w.hop w.rest w.pre))
