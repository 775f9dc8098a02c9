-- add_vaddr on the words: three words of tables are set, and the memory stands for the state with one more hop.
use mathlib.Core.Path.{◌≡◌, refl, sym, ap, ◌∙◌, subst, subst₂}
use mathlib.Core.Logic.{◌≢◌}
use mathlib.Core.Bool.{true}
use mathlib.Core.Option.{Option, none, some}
use mathlib.Core.List.{List, ◌∷◌}
use Prim.Native.Nat.{ℕ, ◌≤◌, ◌<◌}
use native.Mathlib.Omega.{arith}
use Rattle.memory.specs.Entry.{least_both}
use Rattle.rules.proofs.model.Base.{eqd, both, upd_same, upd_other, upd2-same, upd2-other}
use Rattle.rules.proofs.model.Words.{W, addr, put, idx, off, pte, page_of, acc_of, rights_of, pte_nz}
use Rattle.rules.proofs.model.Abs.{Kind, pt, s1, s2, desc, tab, Abs, head_v, Seen, seek, Sub, Good, WF, Cells, Encodes, is_hand, lent_word, seen_word, cell}
use Rattle.rules.proofs.model.Apart.{pt-s1, pt-s2, s1-s2}
use Rattle.rules.proofs.model.Facts.{seek-here, seek-on, none-some, some_inj, not-hand, below-is}
use Rattle.rules.proofs.model.Read.{table_page, table_at, three-there, entry_at, entry-is, entry-three, maps-three, cell-none, cell-some, kernel-lt, hand-view, child-view}
use Rattle.rules.proofs.model.Cells.{upd_c, upd_c-same, upd_c-other, put-cell, tab-one, rechained}
use Rattle.rules.proofs.steps.Add.{AddPre, new_hop, add_a, add-keep, add-keep-desc, add-new, add-wf}

module _ {b : ℕ} (wide : 6 ≤ b) where
  module _ (N : ℕ) (fl : ℕ → Option ℕ) (A : Abs) (wf : WF b N fl A) (o p c t r : ℕ) (pre : AddPre b A o p c t r) where
    abbrev B : Abs
    B = add_a A p c t r

    abbrev vp : ℕ
    vp = pre.hop.vp

    abbrev vc : ℕ
    vc = pre.chop.vp

    abbrev C1 : Cells
    C1 = upd_c (cell b A) pt c t (pte b p true r)

    abbrev C2 : Cells
    C2 = upd_c C1 s2 c t (addr b vp)

    abbrev C3 : Cells
    C3 = upd_c C2 s1 o vp (addr b vc)

    page-at : A.maps o vp ≡ some p
    page-at =
        let g : Good b A p (pre.hop ∷ pre.rest) = rw pre.is at (wf.good p) in
        rw pre.mine at g.0.mapped

    -- the places differ
    apart : ¬ ((c ≡ o) × (t ≡ vp))
    apart e = none-some (sym pre.free ∙ subst₂ (λ (x y : ℕ). A.maps x y ≡ some p) (sym e.0) (sym e.1) page-at)

    c3_else : (k : Kind) (d v : ℕ) → ¬ ((d ≡ c) × (v ≡ t)) → ¬ ((d ≡ o) × (v ≡ vp)) → C3 k d v ≡ cell b A k d v
    c3_else k d v n n' = upd_c-other C2 s1 o vp (addr b vc) k d v (λ y. n' y.1) ∙ upd_c-other C1 s2 c t (addr b vp) k d v (λ y. n y.1) ∙ upd_c-other (cell b A) pt c t (pte b p true r) k d v (λ y. n y.1)

    c3_target : (k : Kind) → C3 k c t ≡ cell b B k c t
    unfolding seen_word lent_word
    c3_target k = go k (cell-some wide B k c t p (record { vp = t; rt = r; up = head_v (A.chain p); below = none }) (upd2-same A.maps c t (some p)) (rw (upd_same A.chain p (new_hop c t r ∷ A.chain p)) (seek-here none c (new_hop c t r) (A.chain p) refl)))
      where
        e3 : (k : Kind) → C3 k c t ≡ C2 k c t
        e3 k = upd_c-other C2 s1 o vp (addr b vc) k c t (λ y. apart y.1)

        go : (k : Kind) → cell b B k c t ≡ seen_word b B k p (some (record { vp = t; rt = r; up = head_v (A.chain p); below = none })) → C3 k c t ≡ cell b B k c t
        go pt e = rw (e3 pt, upd_c-other C1 s2 c t (addr b vp) pt c t (λ y. pt-s2 y.0), upd_c-same (cell b A) pt c t (pte b p true r), e, pre.in-hand) refl
        go s1 e = rw (e3 s1, upd_c-other C1 s2 c t (addr b vp) s1 c t (λ y. s1-s2 y.0), upd_c-other (cell b A) pt c t (pte b p true r) s1 c t (λ y. pt-s1 (sym y.0)), cell-none wide A s1 c t pre.free, e, pre.in-hand) refl
        go s2 e = rw (e3 s2, upd_c-same C1 s2 c t (addr b vp), e, pre.is) refl

    -- a page that is not lent on further says the same
    word-keep : (k : Kind) (q : ℕ) (s : Seen) → ((x : ℕ) → s.below ≡ some x → A.role x ≡ desc) → seen_word b B k q (some s) ≡ seen_word b A k q (some s)
    unfolding seen_word lent_word
    word-keep pt q s h = refl
    word-keep s1 q s h = go s.below h
      where
        go : (o : Option ℕ) → ((x : ℕ) → o ≡ some x → A.role x ≡ desc) → lent_word b B (A.role q) o ≡ lent_word b A (A.role q) o
        go none h = refl
        go (some x) h = rw (add-keep-desc wide N fl A wf o p c t r pre x (h x refl)) refl
    word-keep s2 q s h = refl

    below-live : (d q : ℕ) (s : Seen) → seek none d (A.chain q) ≡ some s → (x : ℕ) → s.below ≡ some x → A.role x ≡ desc
    below-live d q s e x n = (below-is wide A q d x none (A.chain q) s (wf.good q) (λ y z. none-some z) e n).0

    -- the caller sees the page first in its chain
    abbrev s0 : Option ℕ → Seen
    s0 β = record { vp = vp; rt = pre.hop.rt; up = head_v pre.rest; below = β }

    sees : (β : Option ℕ) → seek β o (A.chain p) ≡ some (s0 β)
    sees β = rw pre.is (seek-here β o pre.hop pre.rest (sym pre.mine))

    not-child : o ≢ c
    not-child e = add-new wide N fl A wf o p c t r pre (s0 none) none (subst (λ (x : ℕ). seek none x (A.chain p) ≡ some (s0 none)) e (sees none))

    lookup : (d : ℕ) → d ≢ c → seek none d (B.chain p) ≡ seek (some c) d (A.chain p)
    lookup d n = rw (upd_same A.chain p (new_hop c t r ∷ A.chain p)) (seek-on none d (new_hop c t r) (A.chain p) n)

    -- the caller's own words: only shadow 1 changes
    c3_page : (k : Kind) → C3 k o vp ≡ cell b B k o vp
    unfolding seen_word lent_word
    c3_page k = go k (cell-some wide A k o vp p (s0 none) page-at (sees none)) (cell-some wide B k o vp p (s0 (some c)) (upd2-other A.maps c t (some p) o vp (λ y. not-child y.0) ∙ page-at) (lookup o not-child ∙ sees (some c)))
      where
        old : (k : Kind) → k ≢ s1 → C3 k o vp ≡ cell b A k o vp
        old k n = upd_c-other C2 s1 o vp (addr b vc) k o vp (λ y. n y.0) ∙ upd_c-other C1 s2 c t (addr b vp) k o vp (λ y. not-child y.1.0) ∙ upd_c-other (cell b A) pt c t (pte b p true r) k o vp (λ y. not-child y.1.0)

        go : (k : Kind) → cell b A k o vp ≡ seen_word b A k p (some (s0 none)) → cell b B k o vp ≡ seen_word b B k p (some (s0 (some c))) → C3 k o vp ≡ cell b B k o vp
        go pt a β = old pt (λ e. pt-s1 e) ∙ a ∙ sym β
        go s1 a β = upd_c-same C2 s1 o vp (addr b vc) ∙ sym (β ∙ (rw (add-keep-desc wide N fl A wf o p c t r pre c pre.child, pre.cis) refl))
        go s2 a β = old s2 (λ e. s1-s2 (sym e)) ∙ a ∙ sym β

    -- all other words stay
    c_else : (k : Kind) (d v : ℕ) → ¬ ((d ≡ c) × (v ≡ t)) → ¬ ((d ≡ o) × (v ≡ vp)) → cell b B k d v ≡ cell b A k d v
    c_else k d v n n' = go (A.maps d v) refl
      where
        m' : B.maps d v ≡ A.maps d v
        m' = upd2-other A.maps c t (some p) d v n

        go : (x : Option ℕ) → A.maps d v ≡ x → cell b B k d v ≡ cell b A k d v
        go none e = cell-none wide B k d v (m' ∙ e) ∙ sym (cell-none wide A k d v e)
        go (some q) e = on (wf.seen d v q e).0 (wf.seen d v q e).1 (wf.seen d v q e).2 (eqd q p)
          where
            on : (s : Seen) → seek none d (A.chain q) ≡ some s → s.vp ≡ v → Dec (q ≡ p) → cell b B k d v ≡ cell b A k d v
            on s w z y = cell-some wide B k d v q s (m' ∙ e) (same y) ∙ word-keep k q s (below-live d q s w) ∙ sym (cell-some wide A k d v q s e w)
              where
                not-o : q ≡ p → d ≢ o
                not-o f g =
                    let u : seek none d (A.chain q) ≡ some (s0 none) = rw (f, g) (sees none) in
                    n' (g, sym z ∙ ap (λ (x : Seen). x.vp) (some_inj (sym w ∙ u)))

                not-c : q ≡ p → d ≢ c
                not-c f g = add-new wide N fl A wf o p c t r pre s none (rw (f, g) at w)

                same : Dec (q ≡ p) → seek none d (B.chain q) ≡ some s
                same (no f) = rw (upd_other A.chain p (new_hop c t r ∷ A.chain p) q f) w
                same (yes f) =
                    let h : d ≢ pre.hop.part = λ g. not-o f (g ∙ pre.mine) in
                    let x : seek none d (pre.hop ∷ pre.rest) ≡ some s = rw (f, pre.is) at w in
                    rw (f, lookup d (not-c f), pre.is) (seek-on (some c) d pre.hop pre.rest h ∙ sym (seek-on none d pre.hop pre.rest h) ∙ x)

    pub add-cells : (k : Kind) (d v : ℕ) → A.role d ≡ desc → cell b B k d v ≡ C3 k d v
    add-cells k d v l = go (both (eqd d c) (eqd v t)) (both (eqd d o) (eqd v vp))
      where
        go : Dec ((d ≡ c) × (v ≡ t)) → Dec ((d ≡ o) × (v ≡ vp)) → cell b B k d v ≡ C3 k d v
        go (yes y) z = rw (y.0, y.1) (sym (c3_target k))
        go (no n) (yes y) = rw (y.0, y.1) (sym (c3_page k))
        go (no n) (no n') = c_else k d v n n' ∙ sym (c3_else k d v n n')

module _ (b : ℕ) where
  -- document 01's effect, on the words: the caller's descriptor is page o, the arguments are page numbers
  unfoldable pub add_m : List ℕ → ℕ → ℕ → ℕ → ℕ → ℕ → List ℕ
  add_m m o vp vc t r =
      let c : ℕ = page_of b (entry_at b m pt o vc) in
      let p : ℕ = page_of b (entry_at b m pt o vp) in
      put b (put b (put b m (table_page b m pt c t) (off b t) (pte b p true r)) (table_page b m s2 c t) (off b t) (addr b vp)) (table_page b m s1 o vp) (off b vp) (addr b vc)

  -- document 01's checks, on the words
  pub record AddChecks (m : List ℕ) (o vp vc t r : ℕ) : Type 0 where
    pub vp_fits : idx b vp < W b
    pub vc_fits : idx b vc < W b
    pub t_fits : idx b t < W b
    pub t_some : t ≢ 0
    pub rights : r < least_both
    pub child : entry_at b m s1 o vc ≡ 1
    pub acc : acc_of (entry_at b m pt o vp) ≡ 1
    pub unlent : entry_at b m s1 o vp ≡ 0
    pub held : Sub r (rights_of (entry_at b m pt o vp))
    pub three : table_at b m pt (page_of b (entry_at b m pt o vc)) t ≢ 0
    pub free : entry_at b m pt (page_of b (entry_at b m pt o vc)) t ≡ 0

module _ {b : ℕ} (wide : 6 ≤ b) where
  module _ (N : ℕ) (fl : ℕ → Option ℕ) (f m : List ℕ) (A : Abs) (wf : WF b N fl A) (en : Encodes b N f m A) (o : ℕ) (lo : A.role o ≡ desc) where
    read : (k : Kind) (d v : ℕ) → A.role d ≡ desc → idx b v < W b → entry_at b m k d v ≡ cell b A k d v
    read = entry-is wide N fl A wf f m en

    free-there : (d v : ℕ) → cell b A pt d v ≡ 0 → A.maps d v ≡ none
    unfolding seen_word
    free-there d v e = go (A.maps d v) refl
      where
        go : (x : Option ℕ) → A.maps d v ≡ x → A.maps d v ≡ none
        go none g = g
        go (some q) g =
            let w = wf.seen d v q g in
            absurd (pte_nz wide q (is_hand (A.role q)) w.0.rt (sym (cell-some wide A pt d v q w.0 g w.1) ∙ e))

    -- the checks on the words give what the abstract call asks
    pub record AddView (vp vc t r : ℕ) : Type 0 where
      pub p : ℕ
      pub c : ℕ
      pub pre : AddPre b A o p c t r
      pub p_is : page_of b (entry_at b m pt o vp) ≡ p
      pub c_is : page_of b (entry_at b m pt o vc) ≡ c
      pub vp_is : pre.hop.vp ≡ vp
      pub vc_is : pre.chop.vp ≡ vc

    pub add-view : (vp vc t r : ℕ) → AddChecks b m o vp vc t r → AddView vp vc t r
    add-view vp vc t r ck =
        let rp : (k : Kind) → entry_at b m k o vp ≡ cell b A k o vp = λ k. read k o vp lo ck.vp_fits in
        let rc : (k : Kind) → entry_at b m k o vc ≡ cell b A k o vc = λ k. read k o vc lo ck.vc_fits in
        let hv = hand-view wide N fl A wf o vp (rw (rp pt) at ck.acc) (sym (rp s1) ∙ ck.unlent) in
        let cv = child-view wide N fl A wf o vc (sym (rc s1) ∙ ck.child) in
        let c_is : page_of b (entry_at b m pt o vc) ≡ cv.0 = ap (page_of b) (rc pt) ∙ cv.2.page in
        let th = three-there wide N fl A wf f m (cell b A) en pt cv.0 t cv.1 ck.t_fits (rw c_is at ck.three) in
        record {
          p = hv.0;
          c = cv.0;
          pre = record {
            in-hand = hv.1;
            hop = hv.2.hop;
            rest = hv.2.rest;
            is = hv.2.is;
            mine = hv.2.part;
            child = cv.1;
            chop = cv.2.hop;
            crest = cv.2.rest;
            cis = cv.2.is;
            cmine = cv.2.part;
            some_t = ck.t_some;
            small = omega (arith, ck.rights);
            right = (subst (Sub r) (ap rights_of (rp pt) ∙ hv.2.rt) ck.held, ck.rights);
            three = th;
            free = free-there cv.0 t (sym (read pt cv.0 t cv.1 ck.t_fits) ∙ (rw c_is at ck.free));
          };
          p_is = ap (page_of b) (rp pt) ∙ hv.2.page;
          c_is = c_is;
          vp_is = hv.2.vp;
          vc_is = cv.2.vp;
        }

    add_at : (p c t r : ℕ) (pre : AddPre b A o p c t r)
        → Encodes b N f (put b (put b (put b m (table_page b m pt c t) (off b t) (pte b p true r)) (table_page b m s2 c t) (off b t) (addr b pre.hop.vp)) (table_page b m s1 o pre.hop.vp) (off b pre.hop.vp) (addr b pre.chop.vp)) (add_a A p c t r)
    add_at p c t r pre =
        let one = tab-one wide N fl A wf in
        let vp = pre.hop.vp in
        let g : Good b A p (pre.hop ∷ pre.rest) = rw pre.is at (wf.good p) in
        let at : A.maps o vp ≡ some p = rw pre.mine at g.0.mapped in
        let th = maps-three wide N fl A wf o vp p at in
        let a = entry-three wide N fl A wf f m (cell b A) en pt c t pre.three.0 pre.child pre.three.1 in
        let β = entry-three wide N fl A wf f m (cell b A) en s2 c t pre.three.0 pre.child pre.three.1 in
        let e = entry-three wide N fl A wf f m (cell b A) en s1 o vp th.0 lo th.1 in
        let lt : (q : ℕ) (k : Kind) (d i : ℕ) → A.role q ≡ tab k d i → q < N = λ q k d i h. kernel-lt wide N fl A wf q (ap is_hand h) in
        rechained wide N fl f A wf _ _ (λ q h. add-keep wide N fl A wf o p c t r pre q (λ z. not-hand z h)) _ _ (add-cells wide N fl A wf o p c t r pre)
        (rw (a.0, β.0, e.0)
        (put-cell wide N f A one _ _ s1 o vp _ _ e.1 (lt _ _ _ _ e.1)
        (put-cell wide N f A one _ _ s2 c t _ _ β.1 (lt _ _ _ _ β.1)
        (put-cell wide N f A one _ _ pt c t _ _ a.1 (lt _ _ _ _ a.1) en))))

    add_is : (vp vc t r p c u w : ℕ) → page_of b (entry_at b m pt o vp) ≡ p → page_of b (entry_at b m pt o vc) ≡ c → u ≡ vp → w ≡ vc
        → add_m b m o vp vc t r ≡ put b (put b (put b m (table_page b m pt c t) (off b t) (pte b p true r)) (table_page b m s2 c t) (off b t) (addr b u)) (table_page b m s1 o u) (off b u) (addr b w)
    unfolding add_m
    add_is vp vc t r p c u w a β e g = rw (a, β, e, g) refl

    pub add_words : (vp vc t r : ℕ) (ck : AddChecks b m o vp vc t r)
        → (p : ℕ) × (c : ℕ) × AddPre b A o p c t r × WF b N fl (add_a A p c t r) × Encodes b N f (add_m b m o vp vc t r) (add_a A p c t r)
    add_words vp vc t r ck =
        let w : AddView vp vc t r = add-view vp vc t r ck in
        (w.p, w.c, w.pre, add-wf wide N fl A wf o w.p w.c t r w.pre, rw (add_is vp vc t r w.p w.c w.pre.hop.vp w.pre.chop.vp w.p_is w.c_is w.vp_is w.vc_is) (add_at w.p w.c t r w.pre))
