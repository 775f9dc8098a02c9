-- collect on the words: the effect stated by places, and that the memory then stands for the smaller state.
use mathlib.Core.Path.{◌≡◌, refl, sym, ap, ◌∙◌, subst}
use mathlib.Core.Logic.{◌≢◌}
use mathlib.Core.Bool.{false}
use mathlib.Core.Option.{Option, none}
use mathlib.Core.List.{List, [], ◌∷◌}
use Prim.Native.Nat.{ℕ, ◌≤◌, ◌<◌}
use native.Mathlib.Omega.{arith}
use lib.ListN.{get_or}
use Rattle.rules.proofs.model.Base.{eqd, upd_same, upd_other}
use Rattle.rules.proofs.model.Words.{W, word, join, Sized, idx-join}
use Rattle.rules.proofs.model.Abs.{Kind, Role, header, hand, blank, desc, root, lst, tab, Three, Abs, three_at, Tabs, WF, Encodes, is_hand, own_word, cell, role_word, desc_list, head_list, list_list, link_word, tag}
use Rattle.rules.proofs.model.Alike.{cells_same}
use Rattle.rules.proofs.model.Apart.{root-part, lst-part}
use Rattle.rules.proofs.model.Facts.{differ}
use Rattle.rules.proofs.model.Read.{cell-none, ThreeIs, three-is}
use Rattle.rules.proofs.steps.Prep.{at_on, at_nil}
use Rattle.rules.proofs.steps.Collect.{without, without-here, without_on, without_nil, at-without, CollPre, coll_a, View, off as gone, on as left, view}

module _ (b : ℕ) where
  -- the words of the roots and of the list after it; all others as they were
  pub record CollEffect (N : ℕ) (A : Abs) (c i : ℕ) (m m' : List ℕ) : Type 0 where
    pub sized : Sized b N m'
    pub roots : (k : Kind) → word b m' (A.rootp k c) i ≡ 0
    pub list : (j : ℕ) → j < W b → word b m' (A.lstp c) j ≡ get_or (list_list b A.chain (without i (A.threes c))) j 0
    pub rest : (q j : ℕ) → j < W b → q ≢ A.lstp c → ((k : Kind) → ¬ ((q ≡ A.rootp k c) × (j ≡ i))) → word b m' q j ≡ word b m q j

module _ {b : ℕ} (wide : 6 ≤ b) where
  at-gone : (role : ℕ → Role) (d i : ℕ) (ts : List Three) → Tabs b role d ts → three_at i (without i ts) ≡ none
  at-gone role d i [] g = ap (three_at i) (without_nil i) ∙ at_nil i
  at-gone role d i (t ∷ ts) g = go (eqd i t.at) (at-gone role d i ts g.1)
    where
      go : Dec (i ≡ t.at) → three_at i (without i ts) ≡ none → three_at i (without i (t ∷ ts)) ≡ none
      go (yes y) ih = ap (three_at i) (without-here i t ts y) ∙ subst (λ (z : ℕ). three_at z ts ≡ none) (sym y) g.0.once
      go (no y) ih = ap (three_at i) (without_on i t ts y) ∙ at_on i t (without i ts) y ∙ ih

module _ {b : ℕ} (wide : 6 ≤ b) where
  module _ (N : ℕ) (fl : ℕ → Option ℕ) (f : List ℕ) (A : Abs) (wf : WF b N fl A) (c i : ℕ) (t : Three) (pre : CollPre b A c i t) where
    abbrev B : Abs
    B = coll_a A c i t

    is : ThreeIs b A.role c i t
    is = three-is wide A.role c i (A.threes c) t (wf.tabs c pre.live) pre.here

    role_same : (q : ℕ) → (is_hand (B.role q) ≡ is_hand (A.role q)) × (own_word (B.role q) ≡ own_word (A.role q))
    role_same q = go (view wide N fl A wf c i t pre q)
      where
        go : View wide N fl A wf c i t pre q → (is_hand (B.role q) ≡ is_hand (A.role q)) × (own_word (B.role q) ≡ own_word (A.role q))
        go (gone k x y) = (ap is_hand y ∙ sym (ap is_hand (ap A.role x ∙ is.pages k)), ap own_word y ∙ sym (ap own_word (ap A.role x ∙ is.pages k)))
        go (left _ y) = (ap is_hand y, ap own_word y)

    coll_cells : (k : Kind) (d v : ℕ) → cell b B k d v ≡ cell b A k d v
    coll_cells = cells_same b A B refl refl role_same

    R-role : (k : Kind) → A.role (A.rootp k c) ≡ root k c
    R-role k = wf.root_role k c pre.live

    L-role : A.role (A.lstp c) ≡ lst c
    L-role = wf.lst_role c pre.live

    module _ (m m' : List ℕ) (en : Encodes b N f m A) (ef : CollEffect b N A c i m m') where
      left_word : (q j : ℕ) (r : Role) → A.role q ≡ r → is_hand r ≡ false → q < N → j < W b → word b m' q j ≡ role_word b f B (cell b B) r q j
      unfolding role_word head_list desc_list link_word
      left_word q j r e h l β = go r e h
        where
          says : (r : Role) → A.role q ≡ r → is_hand r ≡ false → word b m q j ≡ role_word b f A (cell b A) r q j
          says r e h = en.says q j l β (ap is_hand e ∙ h) ∙ ap (λ (z : Role). role_word b f A (cell b A) z q j) e

          same : (r : Role) → A.role q ≡ r → is_hand r ≡ false → tag r ≢ 4 → tag r ≢ 5 → word b m' q j ≡ role_word b f A (cell b A) r q j
          same r e h n4 n5 = ef.rest q j β (λ y. n5 (ap tag (sym e ∙ ap A.role y ∙ L-role))) (λ k y. n4 (ap tag (sym e ∙ ap A.role y.0 ∙ R-role k))) ∙ says r e h

          go : (r : Role) → A.role q ≡ r → is_hand r ≡ false → word b m' q j ≡ role_word b f B (cell b B) r q j
          go header e h = same header e h (omega arith) (omega arith)
          go hand e h = let z : ◌≡◌ {A = ℕ} 0 1 = cc in absurd (omega arith)
          go blank e h = same blank e h (omega arith) (omega arith)
          go desc e h = same desc e h (omega arith) (omega arith)
          go (tab k d x) e h = same (tab k d x) e h (omega arith) (omega arith) ∙ sym (coll_cells k d (join b x j))
          go (root k d) e h = on (eqd d c)
            where
              nl : q ≢ A.lstp c
              nl y = differ (sym e ∙ ap A.role y ∙ L-role) (omega arith)

              on : Dec (d ≡ c) → word b m' q j ≡ link_word b k (three_at j (B.threes d))
              on (no x) = ef.rest q j β nl (λ k' y. x (root-part (sym e ∙ ap A.role y.0 ∙ R-role k'))) ∙ says (root k d) e h ∙ ap (λ (u : List Three). link_word b k (three_at j u)) (sym (upd_other A.threes c (without i (A.threes c)) d x))
              on (yes x) = at (eqd j i)
                where
                  q_r : q ≡ A.rootp k c
                  q_r = sym (rw x at (wf.root_inv k d q e).1)

                  th : B.threes d ≡ without i (A.threes c)
                  th = ap B.threes x ∙ upd_same A.threes c (without i (A.threes c))

                  at : Dec (j ≡ i) → word b m' q j ≡ link_word b k (three_at j (B.threes d))
                  at (yes y) =
                      let w : word b m' q j ≡ 0 = rw (y, q_r) (ef.roots k) in
                      let z : three_at j (B.threes d) ≡ none = ap (three_at j) th ∙ subst (λ (a : ℕ). three_at a (without i (A.threes c)) ≡ none) (sym y) (at-gone wide A.role c i (A.threes c) (wf.tabs c pre.live)) in
                      w ∙ sym (ap (link_word b k) z)
                  at (no y) =
                      let z : three_at j (B.threes d) ≡ three_at j (A.threes d) = ap (three_at j) th ∙ at-without i j (A.threes c) y ∙ ap (λ (a : ℕ). three_at j (A.threes a)) (sym x) in
                      ef.rest q j β nl (λ k' w. y w.1) ∙ says (root k d) e h ∙ ap (link_word b k) (sym z)
          go (lst d) e h = on (eqd d c)
            where
              on : Dec (d ≡ c) → word b m' q j ≡ get_or (list_list b A.chain (B.threes d)) j 0
              on (no x) = ef.rest q j β (λ y. x (lst-part (sym e ∙ ap A.role y ∙ L-role))) (λ k y. differ (sym e ∙ ap A.role y.0 ∙ R-role k) (omega arith)) ∙ says (lst d) e h ∙ ap (λ (u : List Three). get_or (list_list b A.chain u) j 0) (sym (upd_other A.threes c (without i (A.threes c)) d x))
              on (yes x) =
                  let q_l : q ≡ A.lstp c = sym (rw x at (wf.lst_inv d q e).1) in
                  let w : word b m' q j ≡ get_or (list_list b A.chain (without i (A.threes c))) j 0 = rw q_l (ef.list j β) in
                  w ∙ sym (ap (λ (u : List Three). get_or (list_list b A.chain u) j 0) (ap B.threes x ∙ upd_same A.threes c (without i (A.threes c))))

      pub coll_words : Encodes b N f m' B
      unfolding role_word
      coll_words = record { sized = ef.sized; says = λ q j l β h. go q j l β h (view wide N fl A wf c i t pre q) }
        where
          go : (q j : ℕ) → q < N → j < W b → is_hand (B.role q) ≡ false → View wide N fl A wf c i t pre q → word b m' q j ≡ role_word b f B (cell b B) (B.role q) q j
          go q j l β h (gone k x y) =
              let r : A.role q ≡ tab k c i = ap A.role x ∙ is.pages k in
              let w : word b m' q j ≡ cell b A k c (join b i j) = ef.rest q j β (λ z. differ (sym r ∙ ap A.role z ∙ L-role) (omega arith)) (λ k' z. differ (sym r ∙ ap A.role z.0 ∙ R-role k') (omega arith)) ∙ en.says q j l β (ap is_hand r) ∙ ap (λ (z : Role). role_word b f A (cell b A) z q j) r in
              rw y (w ∙ cell-none wide A k c (join b i j) (pre.empty (join b i j) (idx-join wide i j β)))
          go q j l β h (left _ y) = left_word q j (A.role q) refl (ap is_hand (sym y) ∙ h) l β ∙ ap (λ (z : Role). role_word b f B (cell b B) z q j) (sym y)
