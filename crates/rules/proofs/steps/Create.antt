-- create_partition on the words: five takes, then the new partition's words.
use mathlib.Core.Path.{◌≡◌, refl, sym, ap, ◌∙◌, subst}
use mathlib.Core.Logic.{◌≢◌}
use mathlib.Core.Bool.{false}
use mathlib.Core.Option.{Option}
use mathlib.Core.List.{List, [], ◌∷◌}
use Prim.Native.Nat.{ℕ, zero, suc, ◌≤◌, ◌<◌}
use native.Mathlib.Omega.{arith}
use lib.ListN.{length}
use Rattle.rules.specs.Moves.{take_page, take_all}
use Rattle.rules.proofs.model.Base.{eqd, pick, pick_yes, pick_no, upd, upd_same, upd_other}
use Rattle.rules.proofs.model.Words.{W, addr, word, put, idx, off, page_of, acc_of, page_of-addr, put_l, twelve-lt}
use Rattle.rules.proofs.model.Abs.{Kind, pt, s1, s2, blank, desc, Hop, Abs, head_v, head_p, Good, WF, Encodes, is_hand, cell, desc_words}
use Rattle.rules.proofs.model.Apart.{pt-s1, pt-s2, s1-s2}
use Rattle.rules.proofs.model.Facts.{differ, length-parts, not_root}
use Rattle.rules.proofs.model.Read.{table_page, entry_at, entry-is, kernel-lt}
use Rattle.rules.proofs.model.Roles.{set_role}
use Rattle.rules.proofs.model.Walk.{parent-word}
use Rattle.rules.proofs.model.Take.{Held, held-step, held_one, held-page, take-one, view-held}
use Rattle.rules.proofs.steps.Fill.{First, FillPre, fill_a, fill-wf, FillView, is_D, is_P, is_L, is_old, view}
use Rattle.rules.proofs.steps.FillWords.{fill_m, fill-words}

module _ (b : ℕ) where
  -- how many partitions are above d
  unfoldable pub depth_m : ℕ → List ℕ → ℕ → ℕ
  depth_m zero m d = 0
  depth_m (suc n) m d = pick (eqd (page_of b (word b m d 11)) 0) 0 (suc (depth_m n m (page_of b (word b m d 11))))

module _ (b : ℕ) where
  unfoldable pub create_m : List ℕ → ℕ → ℕ → (Kind → ℕ) → ℕ → List ℕ
  create_m m o v vr w =
      let D : ℕ = page_of b (entry_at b m pt o v) in
      let P : Kind → ℕ = λ k. page_of b (entry_at b m pt o (vr k)) in
      let L : ℕ = page_of b (entry_at b m pt o w) in
      let m5 : List ℕ = take_all b m o (addr b v ∷ addr b (vr pt) ∷ addr b (vr s1) ∷ addr b (vr s2) ∷ addr b w ∷ []) in
      let m6 : List ℕ = put_l b (put_l b m5 D 0 (addr b v ∷ addr b D ∷ addr b (vr pt) ∷ addr b (P pt) ∷ addr b (vr s1) ∷ addr b (P s1) ∷ addr b (vr s2) ∷ addr b (P s2) ∷ addr b w ∷ addr b L ∷ 0 ∷ addr b o ∷ [])) L 0 (1 ∷ []) in
      put b m6 (table_page b m6 s1 o v) (off b v) 1

module _ (b : ℕ) where
  pub record HandW (m : List ℕ) (o v : ℕ) : Type 0 where
    pub fits : idx b v < W b
    pub acc : acc_of (entry_at b m pt o v) ≡ 1
    pub unlent : entry_at b m s1 o v ≡ 0

  pub record CreateChecks (m : List ℕ) (o v : ℕ) (vr : Kind → ℕ) (w : ℕ) : Type 0 where
    pub v_hand : HandW m o v
    pub vr_hand : (k : Kind) → HandW m o (vr k)
    pub w_hand : HandW m o w
    pub vr_v : (k : Kind) → vr k ≢ v
    pub w_v : w ≢ v
    pub vr_w : (k : Kind) → vr k ≢ w
    pub vr_one : (k k' : Kind) → vr k ≡ vr k' → k ≡ k'
    pub deep : depth_m b 9 m o < 8

module _ {b : ℕ} (wide : 6 ≤ b) where
  module _ (N : ℕ) (fl : ℕ → Option ℕ) (f m : List ℕ) (A : Abs) (wf : WF b N fl A) (en : Encodes b N f m A) where
    parent_is : (d : ℕ) → A.role d ≡ desc → page_of b (word b m d 11) ≡ head_p (A.chain d)
    parent_is d l =
        let h : is_hand (A.role d) ≡ false = ap is_hand l in
        ap (page_of b) (en.says d 11 (kernel-lt wide N fl A wf d h) (twelve-lt wide 11 (omega arith)) h ∙ (rw l (parent-word wide f A (cell b A) d))) ∙ page_of-addr wide (head_p (A.chain d))

    depth_is : (n d : ℕ) → A.role d ≡ desc → length (A.chain d) < n → depth_m b n m d ≡ length (A.chain d)
    unfolding depth_m
    depth_is zero d l β = absurd (omega arith)
    depth_is (suc n) d l β = go (A.chain d) refl (λ e k β'. depth_is n e k β')
      where
        go : (hs : List Hop) → A.chain d ≡ hs → ((e : ℕ) → A.role e ≡ desc → length (A.chain e) < n → depth_m b n m e ≡ length (A.chain e)) → depth_m b (suc n) m d ≡ length (A.chain d)
        go [] e ih = rw e (pick_yes (eqd (page_of b (word b m d 11)) 0) 0 _ (parent_is d l ∙ ap head_p e))
        go (h ∷ hs) e ih =
            let g : Good b A d (h ∷ hs) = rw e at (wf.good d) in
            let p : page_of b (word b m d 11) ≡ h.part = parent_is d l ∙ ap head_p e in
            let nz : h.part ≢ 0 = λ z. differ (sym wf.head_role ∙ (rw z at g.0.live)) (omega arith) in
            let k : length (A.chain h.part) ≡ length hs = sym (length-parts (A.chain h.part)) ∙ sym (ap length g.0.above) ∙ length-parts hs in
            let r : depth_m b n m h.part ≡ length hs = ih h.part g.0.live (omega (arith, ap length e)) ∙ k in
            pick_no (eqd (page_of b (word b m d 11)) 0) 0 (suc (depth_m b n m (page_of b (word b m d 11)))) (λ z. nz (sym p ∙ z)) ∙ (rw (p, r, e) refl)

    module _ (o : ℕ) (lo : A.role o ≡ desc) (v : ℕ) (vr : Kind → ℕ) (w : ℕ) (ck : CreateChecks b m o v vr w) where
      read : (x : ℕ) → HandW b m o x → (p : ℕ) × Held A o x p
      read x h = view-held wide N fl f A wf o x (rw (entry-is wide N fl A wf f m en pt o x lo h.fits) at h.acc) (sym (entry-is wide N fl A wf f m en s1 o x lo h.fits) ∙ h.unlent)

      pub D : ℕ
      D = (read v ck.v_hand).0

      pub P : Kind → ℕ
      P k = (read (vr k) (ck.vr_hand k)).0

      pub L : ℕ
      L = (read w ck.w_hand).0

      h_d : Held A o v D
      unfolding D
      h_d = (read v ck.v_hand).1

      h_p : (k : Kind) → Held A o (vr k) (P k)
      unfolding P
      h_p k = (read (vr k) (ck.vr_hand k)).1

      h_l : Held A o w L
      unfolding L
      h_l = (read w ck.w_hand).1

      -- distinct places, distinct pages
      apart : (x y p q : ℕ) → Held A o x p → Held A o y q → x ≢ y → p ≢ q
      apart x y p q h k n e = n (held_one wide N fl f A wf o x y q (rw e at h) k)

      P-D : (k : Kind) → P k ≢ D
      P-D k = apart (vr k) v (P k) D (h_p k) h_d (ck.vr_v k)

      L-D : L ≢ D
      L-D = apart w v L D h_l h_d ck.w_v

      L-P : (k : Kind) → L ≢ P k
      L-P k = apart w (vr k) L (P k) h_l (h_p k) (λ e. ck.vr_w k (sym e))

      P-P : (k k' : Kind) → k ≢ k' → P k ≢ P k'
      P-P k k' n = apart (vr k) (vr k') (P k) (P k') (h_p k) (h_p k') (λ e. n (ck.vr_one k k' e))

      abbrev A1 : Abs
      A1 = set_role A D blank

      abbrev A2 : Abs
      A2 = set_role A1 (P pt) blank

      abbrev A3 : Abs
      A3 = set_role A2 (P s1) blank

      abbrev A4 : Abs
      A4 = set_role A3 (P s2) blank

      abbrev A5 : Abs
      A5 = set_role A4 L blank

      blank-stays : (X : Abs) (p q : ℕ) → X.role q ≡ blank → (set_role X p blank).role q ≡ blank
      blank-stays X p q e = go (eqd q p)
        where
          go : Dec (q ≡ p) → upd X.role p blank q ≡ blank
          go (yes y) = rw y (upd_same X.role p blank)
          go (no n) = upd_other X.role p blank q n ∙ e

      live-stays : (X : Abs) (x p : ℕ) → Held X o x p → X.role o ≡ desc → (set_role X p blank).role o ≡ desc
      live-stays X x p h e = upd_other X.role p blank o (λ y. differ (sym h.in-hand ∙ (rw y at e)) (omega arith)) ∙ e

      abbrev m1 : List ℕ
      m1 = take_page b m o (addr b v)

      abbrev m2 : List ℕ
      m2 = take_page b m1 o (addr b (vr pt))

      abbrev m3 : List ℕ
      m3 = take_page b m2 o (addr b (vr s1))

      abbrev m4 : List ℕ
      m4 = take_page b m3 o (addr b (vr s2))

      abbrev m5 : List ℕ
      m5 = take_page b m4 o (addr b w)

      -- all five are taken
      taken : WF b N fl A5 × Encodes b N f m5 A5 × (A5.role o ≡ desc)
      taken =
          let t1 = take-one wide N fl f A wf m o v D en lo ck.v_hand.fits h_d in
          let l1 = live-stays A v D h_d lo in
          let s1-D : (x q : ℕ) → q ≢ D → Held A o x q → Held A1 o x q = λ x q n h. held-step A o x q D blank n h in
          let h2 = s1-D (vr pt) (P pt) (P-D pt) (h_p pt) in
          let t2 = take-one wide N fl f A1 t1.0 m1 o (vr pt) (P pt) t1.1 l1 (ck.vr_hand pt).fits h2 in
          let l2 = live-stays A1 (vr pt) (P pt) h2 l1 in
          let h3 = held-step A1 o (vr s1) (P s1) (P pt) blank (P-P s1 pt (λ e. pt-s1 (sym e))) (s1-D (vr s1) (P s1) (P-D s1) (h_p s1)) in
          let t3 = take-one wide N fl f A2 t2.0 m2 o (vr s1) (P s1) t2.1 l2 (ck.vr_hand s1).fits h3 in
          let l3 = live-stays A2 (vr s1) (P s1) h3 l2 in
          let h4 = held-step A2 o (vr s2) (P s2) (P s1) blank (P-P s2 s1 (λ e. s1-s2 (sym e))) (held-step A1 o (vr s2) (P s2) (P pt) blank (P-P s2 pt (λ e. pt-s2 (sym e))) (s1-D (vr s2) (P s2) (P-D s2) (h_p s2))) in
          let t4 = take-one wide N fl f A3 t3.0 m3 o (vr s2) (P s2) t3.1 l3 (ck.vr_hand s2).fits h4 in
          let l4 = live-stays A3 (vr s2) (P s2) h4 l3 in
          let h5 = held-step A3 o w L (P s2) blank (L-P s2) (held-step A2 o w L (P s1) blank (L-P s1) (held-step A1 o w L (P pt) blank (L-P pt) (s1-D w L L-D h_l))) in
          let t5 = take-one wide N fl f A4 t4.0 m4 o w L t4.1 l4 ck.w_hand.fits h5 in
          (t5.0, t5.1, live-stays A4 w L h5 l4)

      first : (x p : ℕ) → Held A o x p → First A5 o p
      first x p h = record { hop = h.hop; rest = h.rest; is = h.is; part = h.part }

      P-blank : (k : Kind) → A5.role (P k) ≡ blank
      P-blank pt = blank-stays A4 L (P pt) (blank-stays A3 (P s2) (P pt) (blank-stays A2 (P s1) (P pt) (upd_same A1.role (P pt) blank)))
      P-blank s1 = blank-stays A4 L (P s1) (blank-stays A3 (P s2) (P s1) (upd_same A2.role (P s1) blank))
      P-blank s2 = blank-stays A4 L (P s2) (upd_same A3.role (P s2) blank)

      P-one : (k k' : Kind) → P k ≡ P k' → k ≡ k'
      P-one k k' e = ck.vr_one k k' (held_one wide N fl f A wf o (vr k) (vr k') (P k') (rw e at (h_p k)) (h_p k'))

      fill-pre : FillPre A5 o D P L
      fill-pre = record {
        live = taken.2;
        shallow = omega (arith, ck.deep, depth_is 9 o lo (omega (arith, wf.depth o lo)));
        D-blank = blank-stays A4 L D (blank-stays A3 (P s2) D (blank-stays A2 (P s1) D (blank-stays A1 (P pt) D (upd_same A.role D blank))));
        P-blank = P-blank;
        L-blank = upd_same A4.role L blank;
        D-first = first v D h_d;
        P-first = λ k. first (vr k) (P k) (h_p k);
        L-first = first w L h_l;
        P-D = P-D;
        L-D = L-D;
        P-L = λ k e. L-P k (sym e);
        P-one = P-one;
      }

      page-is : (x p : ℕ) → HandW b m o x → Held A o x p → page_of b (entry_at b m pt o x) ≡ p
      page-is x p k h = ap (page_of b) (entry-is wide N fl A wf f m en pt o x lo k.fits) ∙ held-page wide N fl f A wf o x p h

      head-v : (x p : ℕ) → Held A o x p → head_v (A.chain p) ≡ x
      head-v x p h = ap head_v h.is ∙ h.vp

      desc-is :
          desc_words b (fill_a A5 D P L) D []
          ≡ addr b v ∷ addr b D ∷ addr b (vr pt) ∷ addr b (P pt) ∷ addr b (vr s1) ∷ addr b (P s1) ∷ addr b (vr s2) ∷ addr b (P s2) ∷ addr b w ∷ addr b L
          ∷ 0 ∷ addr b o ∷ []
      desc-is =
          rw (
            upd_same (A.rootp pt) D (P pt),
            upd_same (A.rootp s1) D (P s1),
            upd_same (A.rootp s2) D (P s2),
            upd_same A.lstp D L,
            head-v v D h_d,
            head-v (vr pt) (P pt) (h_p pt),
            head-v (vr s1) (P s1) (h_p s1),
            head-v (vr s2) (P s2) (h_p s2),
            head-v w L h_l,
            ap head_p h_d.is ∙ h_d.part,
          ) refl

      abbrev done : List ℕ → ℕ → List ℕ
      done ws x = let m6 : List ℕ = put_l b (put_l b m5 D 0 ws) L 0 (1 ∷ []) in put b m6 (table_page b m6 s1 o x) (off b x) 1

      create-is : create_m b m o v vr w ≡ done (addr b v ∷ addr b D ∷ addr b (vr pt) ∷ addr b (P pt) ∷ addr b (vr s1) ∷ addr b (P s1) ∷ addr b (vr s2) ∷ addr b (P s2) ∷ addr b w ∷ addr b L ∷ 0 ∷ addr b o ∷ []) v
      unfolding create_m
      create-is = rw (page-is v D ck.v_hand h_d, page-is (vr pt) (P pt) (ck.vr_hand pt) (h_p pt), page-is (vr s1) (P s1) (ck.vr_hand s1) (h_p s1), page-is (vr s2) (P s2) (ck.vr_hand s2) (h_p s2), page-is w L ck.w_hand h_l) refl

      fill_is : fill_m wide N fl f A5 taken.0 o D P L fill-pre m5 ≡ done (desc_words b (fill_a A5 D P L) D []) v
      unfolding fill_m fill-pre first
      fill_is = ap (done (desc_words b (fill_a A5 D P L) D [])) h_d.vp

      -- the root's pages are as they were
      D-root : 1 ≢ D
      D-root = not_root wide N fl A wf D h_d.hop h_d.rest h_d.is

      pub create-root : ((k : Kind) → (fill_a A5 D P L).rootp k 1 ≡ A.rootp k 1) × ((fill_a A5 D P L).lstp 1 ≡ A.lstp 1) × ((fill_a A5 D P L).threes 1 ≡ A.threes 1)
      create-root = (λ k. upd_other (A.rootp k) D (P k) 1 D-root, upd_other A.lstp D L 1 D-root, upd_other A.threes D [] 1 D-root)

      pub create-words : WF b N fl (fill_a A5 D P L) × Encodes b N f (create_m b m o v vr w) (fill_a A5 D P L)
      create-words =
          let e : create_m b m o v vr w ≡ fill_m wide N fl f A5 taken.0 o D P L fill-pre m5 = create-is ∙ sym (fill_is ∙ ap (λ (ws : List ℕ). done ws v) desc-is) in
          (fill-wf wide N fl A5 taken.0 o D P L fill-pre, subst (λ (z : List ℕ). Encodes b N f z (fill_a A5 D P L)) (sym e) (fill-words wide N fl f A5 taken.0 o D P L fill-pre m5 taken.1))

      -- no page is left blank
      pub no-blank-left : ((p : ℕ) → A.role p ≢ blank) → (p : ℕ) → (fill_a A5 D P L).role p ≢ blank
      no-blank-left h p e = go (view wide N fl A5 taken.0 o D P L fill-pre p)
        where
          old : (p : ℕ) → p ≢ D → p ≢ L → ((k : Kind) → p ≢ P k) → A5.role p ≡ A.role p
          old p a β c = upd_other A4.role L blank p β ∙ upd_other A3.role (P s2) blank p (c s2) ∙ upd_other A2.role (P s1) blank p (c s1) ∙ upd_other A1.role (P pt) blank p (c pt) ∙ upd_other A.role D blank p a

          go : FillView A5 D P L p ((fill_a A5 D P L).role p) → ⊥
          go (is_D x y) = differ (sym e ∙ y) (omega arith)
          go (is_P k x y) = differ (sym e ∙ y) (omega arith)
          go (is_L x y) = differ (sym e ∙ y) (omega arith)
          go (is_old a β c y) = h p (sym (old p a β c) ∙ sym y ∙ e)
