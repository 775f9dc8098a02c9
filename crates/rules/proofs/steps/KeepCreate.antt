-- create_partition keeps the invariant.
use mathlib.Core.Path.{◌≡◌, refl, sym, ap, ◌∙◌, subst}
use mathlib.Core.Logic.{◌≢◌}
use mathlib.Core.Bool.{Bool, true, false, cond}
use mathlib.Core.Option.{Option, some}
use mathlib.Core.List.{List, [], ◌∷◌}
use Prim.Native.Nat.{ℕ, zero, suc, ◌+◌, ◌≤◌, ◌<◌}
use native.Mathlib.Omega.{arith}
use borrow.Author.Tests.{leb-false, eqb-true, eqb-false}
use lib.Dec.{eqb}
use lib.ListN.{set}
use Rattle.memory.specs.Geometry.{most_depth}
use Rattle.memory.specs.Words.{overwrite, start, index, fill}
use Rattle.memory.specs.Partition.{current, parent}
use Rattle.rules.specs.Call.{create_partition}
use Rattle.rules.specs.Conditions.{bad_page, not_in_hand}
use Rattle.rules.specs.Moves.{take_all, depth}
use Rattle.rules.specs.Refusals.{refusals, refusal}
use Rattle.rules.specs.Effects.{create, effect}
use Rattle.rules.proofs.model.Base.{eqd, pick_yes, pick_no}
use Rattle.rules.proofs.model.Words.{W, addr, word, put, put_l, idx, off, off-lt, page_of, acc_of, page_of-zero, word-put-other, twelve-lt}
use Rattle.rules.proofs.model.Abs.{Kind, pt, s1, s2, desc, Three, three_at, Abs, WF, EncodesC, Cells, cell, header}
use Rattle.rules.proofs.model.Facts.{differ}
use Rattle.rules.proofs.model.Read.{root_page, table_page, table_at, entry_at, put_at, put-there, root-page, entry-three, entry-is, hand-view, maps-three, three-is}
use Rattle.rules.proofs.steps.Create.{depth_m, create_m, HandW, CreateChecks, create-words}
use Rattle.rules.proofs.model.Names.{PageAddress, good-page}
use Rattle.rules.proofs.model.Inv.{Inv, named, live, cur-is}
use Rattle.rules.proofs.steps.Keep.{inv-create}
use Rattle.rules.proofs.Rows.{passed}
use Rattle.rules.proofs.steps.Checks.{Each, none_of, not-twice, in-hand}

-- ---- one word, as a list of one

overwrite-one : (m : List ℕ) (i x : ℕ) → overwrite m i (x ∷ []) ≡ set m i x
overwrite-one [] i x = refl
overwrite-one (y ∷ ys) zero x = go ys
  where
    go : (ys : List ℕ) → x ∷ overwrite ys zero [] ≡ x ∷ ys
    go [] = refl
    go (z ∷ zs) = refl
overwrite-one (y ∷ ys) (suc i) x = ap (λ (l : List ℕ). y ∷ l) (overwrite-one ys i x)

module _ (b : ℕ) (m : List ℕ) where
  fill_is : (p : ℕ) (ws : List ℕ) → fill b m p ws ≡ put_l b m p 0 ws
  unfolding fill put_l
  fill_is p ws = let e : start b p ≡ index b p 0 = omega arith in ap (λ (j : ℕ). overwrite m j ws) e

  first-is : (p x : ℕ) → put b m p 0 x ≡ put_l b m p 0 (x ∷ [])
  unfolding put put_l
  first-is p x = sym (overwrite-one m (index b p 0) x)

  -- ---- the depth, counted up to n

  depth_is : (n d : ℕ) → depth b n m d < n → depth_m b (suc n) m d ≡ depth b n m d
  unfolding depth depth_m page_of word
  depth_is zero d l = absurd (omega arith)
  depth_is (suc n) d l = go (eqb (parent b m d) 0) refl (depth_is n (parent b m d)) l
    where
      go : (t : Bool) → eqb (parent b m d) 0 ≡ t → (depth b n m (parent b m d) < n → depth_m b (suc n) m (parent b m d) ≡ depth b n m (parent b m d))
          → cond t 0 (1 + depth b n m (parent b m d)) < suc n → depth_m b (suc (suc n)) m d ≡ cond (eqb (parent b m d) 0) 0 (1 + depth b n m (parent b m d))
      go true e ih l = rw e (pick_yes (eqd (parent b m d) 0) 0 _ (eqb-true _ _ e))
      go false e ih l = rw e (pick_no (eqd (parent b m d) 0) 0 _ (eqb-false _ _ e) ∙ ap suc (ih (omega arith)) ∙ omega arith)

  slot-five : (d v : ℕ) → table_at b m s1 d v ≡ word b m (root_page b m s1 d) (idx b v)
  unfolding table_at root_page word idx
  slot-five d v = refl

  root-five : (d : ℕ) → root_page b m s1 d ≡ page_of b (word b m d 5)
  unfolding root_page word page_of
  root-five d = refl

module _ {b : ℕ} (wide : 6 ≤ b) where
  -- m' is m with a word of the header set: where the caller has tables in m' it has tables in m
  table_before : (N : ℕ) (fl : ℕ → Option ℕ) (f m m' : List ℕ) (B : Abs) (C : Cells) (o v j x : ℕ) (t : Three) → WF b N fl B → EncodesC b N f m' B C → m' ≡ put b m 0 j x → j < W b
      → o ≡ B.cur → three_at (idx b v) (B.threes o) ≡ some t → table_at b m s1 o v ≢ 0
  table_before N fl f m m' B C o v j x t w_b en e l c th z = (entry-three wide N fl B w_b f m' C en s1 o v t lo th).3 (slot-five b m' o v ∙ (rw (after, before) same) ∙ sym (slot-five b m o v) ∙ z)
    where
      q : ℕ
      q = B.rootp s1 o

      lo : B.role o ≡ desc
      lo = ap B.role c ∙ w_b.cur_live

      stays : (p k : ℕ) → B.role p ≢ header → k < W b → word b m' p k ≡ word b m p k
      stays p k n h = ap (λ (y : List ℕ). word b y p k) e ∙ word-put-other wide m 0 j x p k l h (λ y. n (ap B.role y.0 ∙ w_b.head_role))

      after : root_page b m' s1 o ≡ q
      after = root-page wide N fl B w_b f m' C en s1 o lo

      before : root_page b m s1 o ≡ q
      before = root-five b m o ∙ ap (page_of b) (sym (stays o 5 (λ e. differ (sym e ∙ lo) (omega arith)) (twelve-lt wide 5 (omega arith)))) ∙ sym (root-five b m' o) ∙ after

      same : word b m' q (idx b v) ≡ word b m q (idx b v)
      same = stays q (idx b v) (λ e. differ (sym e ∙ w_b.root_role s1 o lo) (omega arith)) (three-is wide B.role o (idx b v) (B.threes o) t (w_b.tabs o lo) th).fits

-- a function of the three kinds
abbrev pub each : ℕ → ℕ → ℕ → Kind → ℕ
each x y z pt = x
each x y z s1 = y
each x y z s2 = z

module _ {b : ℕ} (wide : 6 ≤ b) (m : List ℕ) (i : Inv b m) where
  open named b i use {N, fl, f, A}

  abbrev o : ℕ
  o = current b m

  -- the page that the caller has at v
  abbrev page : ℕ → ℕ
  page v = page_of b (entry_at b m pt o (page_of b v))

  hand_word : (v : ℕ) → PageAddress b v → not_in_hand b m v ≡ false → HandW b m o (page_of b v)
  hand_word v g e = let h = in-hand b m o v e in record { fits = g.fits; acc = h.0; unlent = h.1 }

  apart : (x y : ℕ) → PageAddress b x → PageAddress b y → x ≢ y → page_of b x ≢ page_of b y
  apart x y gx gy n e = n (sym gx.is ∙ ap (addr b) e ∙ gy.is)

  module _ (p d s t l : ℕ) where
    abbrev five : List ℕ
    five = p ∷ d ∷ s ∷ t ∷ l ∷ []

    abbrev vr : Kind → ℕ
    vr = each (page_of b d) (page_of b s) (page_of b t)

    create-checks : refusal b m (create_partition p d s t l) ≡ 0 → Each (PageAddress b) five × CreateChecks b m o (page_of b p) vr (page_of b l)
    unfolding refusals
    create-checks e =
        let x = passed (refusals b m (create_partition p d s t l)) e in
        let a = none_of (bad_page b) five x.1.0 in
        let n = not-twice five x.1.1.0 in
        let h = none_of (not_in_hand b m) five x.1.1.1.0 in
        let gp = good-page b p a.0 in
        let gd = good-page b d a.1.0 in
        let gs = good-page b s a.1.1.0 in
        let gt = good-page b t a.1.1.1.0 in
        let gl = good-page b l a.1.1.1.1.0 in (
          (gp, (gd, (gs, (gt, (gl, tt))))),
          record {
            v_hand = hand_word p gp h.0;
            vr_hand = elim [ pt ↦ hand_word d gd h.1.0 | s1 ↦ hand_word s gs h.1.1.0 | s2 ↦ hand_word t gt h.1.1.1.0 ];
            w_hand = hand_word l gl h.1.1.1.1.0;
            vr_v = elim [ pt ↦ λ q. apart p d gp gd n.0.0 (sym q) | s1 ↦ λ q. apart p s gp gs n.0.1.0 (sym q) | s2 ↦ λ q. apart p t gp gt n.0.1.1.0 (sym q) ];
            w_v = λ q. apart p l gp gl n.0.1.1.1.0 (sym q);
            vr_w = elim [ pt ↦ apart d l gd gl n.1.0.1.1.0 | s1 ↦ apart s l gs gl n.1.1.0.1.0 | s2 ↦ apart t l gt gl n.1.1.1.0.0 ];
            vr_one = one (apart d s gd gs n.1.0.0) (apart d t gd gt n.1.0.1.0) (apart s t gs gt n.1.1.0.0);
            deep = let y = leb-false most_depth (depth b most_depth m o) x.1.1.1.1.1.0 in rw (depth_is b m 8 o y) y;
          },
        )
      where
        one : page_of b d ≢ page_of b s → page_of b d ≢ page_of b t → page_of b s ≢ page_of b t → (k j : Kind) → vr k ≡ vr j → k ≡ j
        one a c n pt pt q = refl
        one a c n pt s1 q = absurd (a q)
        one a c n pt s2 q = absurd (c q)
        one a c n s1 pt q = absurd (a (sym q))
        one a c n s1 s1 q = refl
        one a c n s1 s2 q = absurd (n q)
        one a c n s2 pt q = absurd (c (sym q))
        one a c n s2 s1 q = absurd (n (sym q))
        one a c n s2 s2 q = refl

    -- all but the mark in the caller's shadow 1
    abbrev words : List ℕ
    words = p ∷ addr b (page p) ∷ d ∷ addr b (page d) ∷ s ∷ addr b (page s) ∷ t ∷ addr b (page t) ∷ l ∷ addr b (page l) ∷ 0 ∷ addr b o ∷ []

    abbrev filled : List ℕ
    filled = put_l b (put_l b (take_all b m o five) (page p) 0 words) (page l) 0 (1 ∷ [])

    effect_is : effect b m (create_partition p d s t l) ≡ put_at b filled s1 o (page_of b p) 1
    unfolding effect create put_at root_page page_of entry_at put addr
    effect_is =
        ap (λ (z : List ℕ). put_at b z s1 o (page_of b p) 1)
        (first-is b (fill b (take_all b m o five) (page p) words) (page l) 1 ∙ ap (λ (z : List ℕ). put_l b z (page l) 0 (1 ∷ [])) (fill_is b (take_all b m o five) (page p) words))

    create-is : Each (PageAddress b) five → create_m b m o (page_of b p) vr (page_of b l) ≡ put b filled (table_page b filled s1 o (page_of b p)) (off b (page_of b p)) 1
    unfolding create_m
    create-is g = rw (g.0.is, g.1.0.is, g.1.1.0.is, g.1.1.1.0.is, g.1.1.1.1.0.is) refl

    pub keep-create : refusal b m (create_partition p d s t l) ≡ 0 → Inv b (effect b m (create_partition p d s t l))
    unfolding table_page
    keep-create e = subst (Inv b) (sym (effect_is ∙ put-there b filled s1 o (page_of b p) 1 there ∙ sym (create-is ck.0))) (inv-create wide m i (page_of b p) vr (page_of b l) ck.1)
      where
        ck : Each (PageAddress b) five × CreateChecks b m o (page_of b p) vr (page_of b l)
        ck = create-checks e

        -- the caller's table is there: else the mark would have gone into the header
        there : table_at b filled s1 o (page_of b p) ≢ 0
        there z =
            let x = create-words wide N fl f m A i.wf i.words o (live wide m i) (page_of b p) vr (page_of b l) ck.1 in
            let read : (k : Kind) → entry_at b m k o (page_of b p) ≡ cell b A k o (page_of b p) = λ k. entry-is wide N fl A i.wf f m i.words k o (page_of b p) (live wide m i) ck.1.v_hand.fits in
            let h = hand-view wide N fl A i.wf o (page_of b p) (sym (ap acc_of (read pt)) ∙ ck.1.v_hand.acc) (sym (read s1) ∙ ck.1.v_hand.unlent) in
            let th = maps-three wide N fl _ x.0 o (page_of b p) h.0 h.2.maps in
            let q : create_m b m o (page_of b p) vr (page_of b l) ≡ put b filled 0 (off b (page_of b p)) 1 = create-is ck.0 ∙ ap (λ (y : ℕ). put b filled (page_of b y) (off b (page_of b p)) 1) z ∙ ap (λ (y : ℕ). put b filled y (off b (page_of b p)) 1) (page_of-zero wide) in
            table_before wide N fl f filled _ _ _ o (page_of b p) (off b (page_of b p)) 1 th.0 x.0 x.1 q (off-lt wide (page_of b p)) (cur-is wide m i) th.1 z
