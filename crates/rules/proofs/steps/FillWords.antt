-- The words of a new partition.
use mathlib.Core.Path.{◌≡◌, refl, sym, ap, ◌∙◌, subst}
use mathlib.Core.Logic.{◌≢◌}
use mathlib.Core.Bool.{Bool, false}
use mathlib.Core.Option.{Option, none, some}
use mathlib.Core.List.{List, [], ◌∷◌}
use Prim.Native.Nat.{ℕ, ◌≤◌, ◌<◌}
use native.Mathlib.Omega.{arith}
use lib.ListN.{get_or}
use Rattle.rules.proofs.model.Base.{eqd, both, upd_same, upd_other}
use Rattle.rules.proofs.model.Words.{W, word, put, idx, off, pte, put_l, put_l-sized, put_l-other, put_l-same, twelve-lt}
use Rattle.rules.proofs.model.Abs.{Kind, pt, s1, s2, Role, header, hand, blank, desc, root, lst, tab, Hop, Three, Abs, head_v, Seen, seek}
use Rattle.rules.proofs.model.Abs.{three_at, Good, WF, Cells, Encodes, EncodesC, is_hand, own_word, lent_word, seen_word, cell, role_word, desc_words}
use Rattle.rules.proofs.model.Abs.{desc_list, head_list, list_list, list_pairs, link_word}
use Rattle.rules.proofs.model.Flags.{desc-clear}
use Rattle.rules.proofs.model.Apart.{pt-s1, s1-s2}
use Rattle.rules.proofs.model.Facts.{seek-here, differ, Top, top}
use Rattle.rules.proofs.model.Read.{table_page, entry-three, kernel-lt, cell-none, cell-some}
use Rattle.rules.proofs.model.Cells.{upd_c, upd_c-same, upd_c-other, put-cell, tab-one}
use Rattle.rules.proofs.model.Walk.{encodes_ext}
use Rattle.rules.proofs.steps.Fill.{FillPre, fill_a, FillView, is_D, is_P, is_L, is_old, view, at-D, keep, fill-wf}

cons_hop : {x y : Hop} {xs ys : List Hop} → x ∷ xs ≡ y ∷ ys → x ≡ y
cons_hop e = cc

module _ {b : ℕ} (wide : 6 ≤ b) where
  module _ (N : ℕ) (fl : ℕ → Option ℕ) (f : List ℕ) (A : Abs) (wf : WF b N fl A) (o D : ℕ) (P : Kind → ℕ) (L : ℕ) (pre : FillPre A o D P L) where
    abbrev B : Abs
    B = fill_a A D P L

    abbrev v_d : ℕ
    v_d = pre.D-first.hop.vp

    blank-word : (m : List ℕ) (C : Cells) → EncodesC b N f m A C → (q j : ℕ) → A.role q ≡ blank → j < W b → word b m q j ≡ 0
    unfolding role_word
    blank-word m C en q j e β =
        en.says q j (kernel-lt wide N fl A wf q (ap is_hand e)) β (ap is_hand e) ∙ ap (λ (r : Role). role_word b f A C r q j) e

    lt : (q : ℕ) → A.role q ≡ blank → q < N
    lt q e = kernel-lt wide N fl A wf q (ap is_hand e)

    threes-same : (d : ℕ) → A.role d ≡ desc → A.threes d ≡ B.threes d
    threes-same d l = sym (upd_other A.threes D [] d (λ e. differ (sym pre.D-blank ∙ (rw e at l)) (omega arith)))

    desc-same : (q : ℕ) → q ≢ D → desc_list b A q ≡ desc_list b B q
    unfolding desc_list
    desc-same q n =
        rw (
          upd_other (A.rootp pt) D (P pt) q n,
          upd_other (A.rootp s1) D (P s1) q n,
          upd_other (A.rootp s2) D (P s2) q n,
          upd_other A.lstp D L q n,
          upd_other A.vcli D 0 q n,
        ) refl

    old-word : (C : Cells) (q j : ℕ) (r : Role) → A.role q ≡ r → q ≢ D → role_word b f A C r q j ≡ role_word b f B C r q j
    unfolding role_word head_list
    old-word C q j header e n = refl
    old-word C q j hand e n = refl
    old-word C q j blank e n = refl
    old-word C q j desc e n = ap (λ (l : List ℕ). get_or l j 0) (desc-same q n)
    old-word C q j (root k d) e n = ap (λ (t : List Three). link_word b k (three_at j t)) (threes-same d (wf.root_inv k d q e).0)
    old-word C q j (lst d) e n = ap (λ (t : List Three). get_or (list_list b A.chain t) j 0) (threes-same d (wf.lst_inv d q e).0)
    old-word C q j (tab k d i) e n = refl

    new-root : (C : Cells) (k : Kind) (q j : ℕ) → role_word b f B C (root k D) q j ≡ 0
    unfolding role_word link_word three_at
    new-root C k q j = ap (λ (t : List Three). link_word b k (three_at j t)) (upd_same A.threes D [])

    new-lst : (C : Cells) (q j : ℕ) → role_word b f B C (lst D) q j ≡ get_or (1 ∷ []) j 0
    unfolding role_word list_list list_pairs
    new-lst C q j = ap (λ (t : List Three). get_or (list_list b A.chain t) j 0) (upd_same A.threes D [])

    abbrev ws : List ℕ
    ws = desc_words b B D []

    filled : (m : List ℕ) (C : Cells) → EncodesC b N f m A C → EncodesC b N f (put_l b (put_l b m D 0 ws) L 0 (1 ∷ [])) B C
    unfolding role_word
    filled m C en = record {
      sized = put_l-sized wide N _ L 0 (1 ∷ []) (put_l-sized wide N m D 0 ws en.sized);
      says = λ q j l β h. go q j l β h (view wide N fl A wf o D P L pre q);
    }
      where
        small : 12 ≤ W b
        small = twelve-lt wide 11 (omega arith)

        m1 : List ℕ
        m1 = put_l b m D 0 ws

        m2 : List ℕ
        m2 = put_l b m1 L 0 (1 ∷ [])

        on-D : (q j : ℕ) → j < W b → q ≢ D → word b m1 q j ≡ word b m q j
        on-D q j β n = put_l-other wide m D 0 ws q j (omega (arith, small)) β n

        on-L : (q j : ℕ) → j < W b → q ≢ L → word b m2 q j ≡ word b m1 q j
        on-L q j β n = put_l-other wide m1 L 0 (1 ∷ []) q j (omega (arith, small)) β n

        go : (q j : ℕ) → q < N → j < W b → is_hand (B.role q) ≡ false → FillView A D P L q (B.role q) → word b m2 q j ≡ role_word b f B C (B.role q) q j
        go q j l β h (is_D x y) =
            let w : word b m2 D j ≡ get_or ws j 0
            = on-L D j β (λ e. pre.L-D (sym e)) ∙ put_l-same wide N m D ws j en.sized (lt D pre.D-blank) β
            ∙ ap (get_or ws j) (blank-word m C en D j pre.D-blank β) in
            rw (y, x) (w ∙ sym (desc-clear b B D (upd_same A.vcli D 0) j))
        go q j l β h (is_P k x y) =
            let w : word b m2 (P k) j ≡ 0 = on-L (P k) j β (pre.P-L k) ∙ on-D (P k) j β (pre.P-D k) ∙ blank-word m C en (P k) j (pre.P-blank k) β in
            rw y ((rw x w) ∙ sym (new-root C k q j))
        go q j l β h (is_L x y) =
            let u : word b m1 L j ≡ 0 = on-D L j β pre.L-D ∙ blank-word m C en L j pre.L-blank β in
            let z = put_l-sized wide N m D 0 ws en.sized in
            let w : word b m2 L j ≡ get_or (1 ∷ []) j 0 = put_l-same wide N m1 L (1 ∷ []) j z (lt L pre.L-blank) β ∙ ap (get_or (1 ∷ []) j) u in
            rw y ((rw x w) ∙ sym (new-lst C q j))
        go q j l β h (is_old n n' n'' y) =
            on-L q j β n' ∙ on-D q j β n ∙ en.says q j l β (ap is_hand (sym y) ∙ h) ∙ old-word C q j (A.role q) refl n ∙ ap (λ (r : Role). role_word b f B C r q j) (sym y)

    -- the cells: only the descriptor's shadow 1 word in o changes
    v_d-at : A.maps o v_d ≡ some D
    v_d-at =
        let g : Good b A D (pre.D-first.hop ∷ pre.D-first.rest) = rw pre.D-first.is at (wf.good D) in
        rw pre.D-first.part at g.0.mapped

    abbrev s0 : Seen
    s0 = record { vp = v_d; rt = pre.D-first.hop.rt; up = head_v pre.D-first.rest; below = none }

    v_d-sees : seek none o (A.chain D) ≡ some s0
    v_d-sees = rw pre.D-first.is (seek-here none o pre.D-first.hop pre.D-first.rest (sym pre.D-first.part))

    -- what a page says of its role
    role-says : (q : ℕ) → q ≢ D → (is_hand (B.role q) ≡ is_hand (A.role q)) × (own_word (B.role q) ≡ own_word (A.role q))
    role-says q n = go (view wide N fl A wf o D P L pre q)
      where
        go : FillView A D P L q (B.role q) → (is_hand (B.role q) ≡ is_hand (A.role q)) × (own_word (B.role q) ≡ own_word (A.role q))
        go (is_D x y) = absurd (n x)
        go (is_P k x y) = (ap is_hand y ∙ sym (ap is_hand (ap A.role x ∙ pre.P-blank k)), ap own_word y ∙ sym (ap own_word (ap A.role x ∙ pre.P-blank k)))
        go (is_L x y) = (ap is_hand y ∙ sym (ap is_hand (ap A.role x ∙ pre.L-blank)), ap own_word y ∙ sym (ap own_word (ap A.role x ∙ pre.L-blank)))
        go (is_old a β c y) = (ap is_hand y, ap own_word y)

    lent_same : (q : ℕ) (x : Option ℕ) → (x ≡ none → own_word (B.role q) ≡ own_word (A.role q)) → lent_word b B (B.role q) x ≡ lent_word b A (A.role q) x
    unfolding lent_word
    lent_same q none e = e refl
    lent_same q (some c) e = refl

    D-hand : is_hand (B.role D) ≡ is_hand (A.role D)
    D-hand = ap is_hand (at-D wide N fl A wf o D P L pre) ∙ sym (ap is_hand pre.D-blank)

    fill-page : (k : Kind) → cell b B k o v_d ≡ upd_c (cell b A) s1 o v_d 1 k o v_d
    unfolding seen_word lent_word
    fill-page pt = cell-some wide B pt o v_d D s0 v_d-at v_d-sees ∙ ap (λ (β : Bool). pte b D β s0.rt) D-hand ∙ sym (upd_c-other (cell b A) s1 o v_d 1 pt o v_d (λ y. pt-s1 y.0) ∙ cell-some wide A pt o v_d D s0 v_d-at v_d-sees)
    fill-page s1 = cell-some wide B s1 o v_d D s0 v_d-at v_d-sees ∙ ap own_word (at-D wide N fl A wf o D P L pre) ∙ sym (upd_c-same (cell b A) s1 o v_d 1)
    fill-page s2 = cell-some wide B s2 o v_d D s0 v_d-at v_d-sees ∙ sym (upd_c-other (cell b A) s1 o v_d 1 s2 o v_d (λ y. s1-s2 (sym y.0)) ∙ cell-some wide A s2 o v_d D s0 v_d-at v_d-sees)

    says_same : (q : ℕ) (s : Seen) (k : Kind) → is_hand (B.role q) ≡ is_hand (A.role q) → (s.below ≡ none → own_word (B.role q) ≡ own_word (A.role q)) → seen_word b B k q (some s) ≡ seen_word b A k q (some s)
    unfolding seen_word
    says_same q s pt a β = ap (λ (x : Bool). pte b q x s.rt) a
    says_same q s s1 a β = lent_same q s.below β
    says_same q s s2 a β = refl

    fill-cells : (k : Kind) (d v : ℕ) → cell b B k d v ≡ upd_c (cell b A) s1 o v_d 1 k d v
    fill-cells k d v = go (A.maps d v) refl (both (eqd d o) (eqd v v_d))
      where
        go : (x : Option ℕ) → A.maps d v ≡ x → Dec ((d ≡ o) × (v ≡ v_d)) → cell b B k d v ≡ upd_c (cell b A) s1 o v_d 1 k d v
        go none e (yes y) = rw (y.0, y.1) (fill-page k)
        go (some q) e (yes y) = rw (y.0, y.1) (fill-page k)
        go none e (no n) = cell-none wide B k d v e ∙ sym (upd_c-other (cell b A) s1 o v_d 1 k d v (λ y. n y.1) ∙ cell-none wide A k d v e)
        go (some q) e (no n) = on (wf.seen d v q e).0 (wf.seen d v q e).1 (wf.seen d v q e).2 (eqd q D)
          where
            on : (s : Seen) → seek none d (A.chain q) ≡ some s → s.vp ≡ v → Dec (q ≡ D) → cell b B k d v ≡ upd_c (cell b A) s1 o v_d 1 k d v
            on s w z x = cell-some wide B k d v q s e w ∙ says_same q s k (a x) (β x) ∙ sym (upd_c-other (cell b A) s1 o v_d 1 k d v (λ y. n y.1) ∙ cell-some wide A k d v q s e w)
              where
                a : Dec (q ≡ D) → is_hand (B.role q) ≡ is_hand (A.role q)
                a (yes y) = rw y D-hand
                a (no y) = (role-says q y).0

                β : Dec (q ≡ D) → s.below ≡ none → own_word (B.role q) ≡ own_word (A.role q)
                β (no y) u = (role-says q y).1
                β (yes y) u =
                    let t : Top d (A.chain q) s = top A d (A.chain q) s w u in
                    let c : pre.D-first.hop ∷ pre.D-first.rest ≡ t.hop ∷ t.rest = sym pre.D-first.is ∙ ap A.chain (sym y) ∙ t.is in
                    let h : pre.D-first.hop ≡ t.hop = cons_hop c in
                    absurd (n (sym t.part ∙ ap (λ (x : Hop). x.part) (sym h) ∙ pre.D-first.part, sym z ∙ t.vp ∙ ap (λ (x : Hop). x.vp) (sym h)))

    -- the whole: the page's words, the list's first word, and the mark in o
    unfoldable pub fill_m : List ℕ → List ℕ
    fill_m m = let m2 : List ℕ = put_l b (put_l b m D 0 ws) L 0 (1 ∷ []) in put b m2 (table_page b m2 s1 o v_d) (off b v_d) 1

    pub fill-words : (m : List ℕ) → Encodes b N f m A → Encodes b N f (fill_m m) B
    unfolding fill_m
    fill-words m en =
        let m2 : List ℕ = put_l b (put_l b m D 0 ws) L 0 (1 ∷ []) in
        let w_b : WF b N fl B = fill-wf wide N fl A wf o D P L pre in
        let e2 : EncodesC b N f m2 B (cell b A) = filled m (cell b A) en in
        let g : Good b B D (pre.D-first.hop ∷ pre.D-first.rest) = rw pre.D-first.is at (w_b.good D) in
        let th : (x : Three) × (three_at (idx b v_d) (B.threes o) ≡ some x) = subst (λ (x : ℕ). (y : Three) × (three_at (idx b v_d) (B.threes x) ≡ some y)) pre.D-first.part g.0.three in
        let x = entry-three wide N fl B w_b f m2 (cell b A) e2 s1 o v_d th.0 (keep wide N fl A wf o D P L pre o desc pre.live refl) th.1 in
        encodes_ext wide N f _ B _ (cell b B) (λ k d v. sym (fill-cells k d v))
        (rw x.0 (put-cell wide N f B (tab-one wide N fl B w_b) m2 (cell b A) s1 o v_d (th.0.page s1) 1 x.1 (kernel-lt wide N fl B w_b (th.0.page s1) (ap is_hand x.1)) e2))
