-- Another partition becomes current; a live flag is set; words of a page in hand are written.
use mathlib.Core.Path.{◌≡◌, refl, sym, ap, ◌∙◌}
use mathlib.Core.Logic.{◌≢◌}
use mathlib.Core.Bool.{false}
use mathlib.Core.Option.{Option, none, some}
use mathlib.Core.List.{List, [], ◌∷◌}
use Prim.Native.Nat.{ℕ, zero, suc, ◌+◌, ◌≤◌, ◌<◌}
use native.Mathlib.Omega.{arith}
use lib.ListN.{length, get_or}
use Rattle.rules.proofs.model.Base.{eqd, upd, upd_same, upd_other}
use Rattle.rules.proofs.model.Words.{W, addr, word, put, put-sized, word-put-same, word-put-other, put_l, put_l-sized, put_l-other, twelve-lt, sixty_one}
use Rattle.rules.proofs.model.Abs.{Kind, pt, s1, s2, Role, header, hand, blank, desc, root, lst, tab, Abs, Seen, seek, WF, Cells, Encodes}
use Rattle.rules.proofs.model.Abs.{is_hand, cell, page_word, seen_word, lent_word, role_word, head_list, desc_words, desc_list, tag}
use Rattle.rules.proofs.model.Alike.{cells_same}
use Rattle.rules.proofs.model.Flags.{flag_word, desc-other}
use Rattle.rules.proofs.model.Facts.{not-hand, good_map}
use Rattle.rules.proofs.model.Walk.{encodes_ext}

tag-zero : (r : Role) → tag r ≡ 0 → r ≡ header
tag-zero header e = refl
tag-zero hand e = absurd (omega arith)
tag-zero blank e = absurd (omega arith)
tag-zero desc e = absurd (omega arith)
tag-zero (root k d) e = absurd (omega arith)
tag-zero (lst d) e = absurd (omega arith)
tag-zero (tab k d x) e = absurd (omega arith)

-- the state with other live flags and another current partition
abbrev pub set_live : Abs → (ℕ → ℕ) → ℕ → Abs
set_live A vs d = record { role = A.role; chain = A.chain; maps = A.maps; rootp = A.rootp; lstp = A.lstp; threes = A.threes; vcli = vs; cur = d }

abbrev pub set_cur : Abs → ℕ → Abs
set_cur A d = set_live A A.vcli d

abbrev pub set_flag : Abs → ℕ → ℕ → Abs
set_flag A d x = set_live A (upd A.vcli d x) A.cur

module _ {b : ℕ} (wide : 6 ≤ b) (N : ℕ) (fl : ℕ → Option ℕ) (f m : List ℕ) (A : Abs) (wf : WF b N fl A) (en : Encodes b N f m A) where
  -- a page in hand may hold anything
  pub free-put : (p j x : ℕ) → j < W b → A.role p ≡ hand → Encodes b N f (put b m p j x) A
  free-put p j x β e = record {
    sized = put-sized wide N m p j x en.sized;
    says = λ q k l c n. word-put-other wide m p j x q k β c (λ y. not-hand e (rw y.0 at n)) ∙ en.says q k l c n;
  }

  pub free-words : (p j : ℕ) (xs : List ℕ) → j + length xs ≤ W b → A.role p ≡ hand → Encodes b N f (put_l b m p j xs) A
  free-words p j xs β e = record {
    sized = put_l-sized wide N m p j xs en.sized;
    says = λ q k l c n. put_l-other wide m p j xs q k β c (λ y. not-hand e (rw y at n)) ∙ en.says q k l c n;
  }

  four_is : (d : ℕ) → get_or (head_list b f (set_cur A d)) 4 0 ≡ addr b d
  unfolding head_list
  four_is d = refl

  cur-same : (d : ℕ) (C : Cells) (r : Role) (q j : ℕ) → tag r ≢ 0 → role_word b f A C r q j ≡ role_word b f (set_cur A d) C r q j
  unfolding role_word desc_list
  cur-same d C header q j n = absurd (n refl)
  cur-same d C hand q j n = refl
  cur-same d C blank q j n = refl
  cur-same d C desc q j n = refl
  cur-same d C (root k e) q j n = refl
  cur-same d C (lst e) q j n = refl
  cur-same d C (tab k e x) q j n = refl

  head-same : (d j : ℕ) → j ≢ 4 → get_or (head_list b f A) j 0 ≡ get_or (head_list b f (set_cur A d)) j 0
  unfolding head_list
  head-same d zero n = refl
  head-same d (suc zero) n = refl
  head-same d (suc (suc zero)) n = refl
  head-same d (suc (suc (suc zero))) n = refl
  head-same d (suc (suc (suc (suc zero)))) n = absurd (n refl)
  head-same d (suc (suc (suc (suc (suc j))))) n = refl

  cell-cur : (d : ℕ) (k : Kind) (e v : ℕ) → cell b A k e v ≡ cell b (set_cur A d) k e v
  unfolding cell page_word seen_word lent_word
  cell-cur d k e v = go (A.maps e v)
    where
      lent : (r : Role) (x : Option ℕ) → lent_word b A r x ≡ lent_word b (set_cur A d) r x
      lent r none = refl
      lent r (some c) = refl

      sn : (k : Kind) (q : ℕ) (x : Option Seen) → seen_word b A k q x ≡ seen_word b (set_cur A d) k q x
      sn k q none = refl
      sn pt q (some s) = refl
      sn s1 q (some s) = lent (A.role q) s.below
      sn s2 q (some s) = refl

      go : (x : Option ℕ) → page_word b A k e x ≡ page_word b (set_cur A d) k e x
      go none = refl
      go (some q) = sn k q (seek none e (A.chain q))

  pub live-wf : (vs : ℕ → ℕ) (d : ℕ) → A.role d ≡ desc → WF b N fl (set_live A vs d)
  live-wf vs d l = record {
    beyond = wf.beyond;
    head_role = wf.head_role;
    head_only = wf.head_only;
    head_chain = wf.head_chain;
    root_live = wf.root_live;
    root_top = wf.root_top;
    root_only = wf.root_only;
    good = λ p. good_map wide A (set_live A vs d) p (length (A.chain p)) (A.chain p) (omega arith) (λ h hs a g. record {
      live = g.live;
      some_v = g.some_v;
      small = g.small;
      mapped = g.mapped;
      above = g.above;
      three = g.three;
      rights = g.rights;
    }) (wf.good p);
    seen = wf.seen;
    root_role = wf.root_role;
    root_inv = wf.root_inv;
    lst_role = wf.lst_role;
    lst_inv = wf.lst_inv;
    tabs = wf.tabs;
    tab_inv = wf.tab_inv;
    kernel = wf.kernel;
    held = wf.held;
    top_maps = wf.top_maps;
    depth = wf.depth;
    ten = wf.ten;
    cur_live = l;
  }

  pub cur-words : (d : ℕ) → Encodes b N f (put b m 0 4 (addr b d)) (set_cur A d)
  unfolding role_word
  cur-words d =
      encodes_ext wide N f _ (set_cur A d) (cell b A) (cell b (set_cur A d)) (cell-cur d) (record { sized = put-sized wide N m 0 4 (addr b d) en.sized; says = λ q j a β n. go q j a β n (eqd q 0) (eqd j 4) })
    where
      four : 4 < W b
      four = twelve-lt wide 4 (omega arith)

      at_head : (q : ℕ) → q ≡ 0 → A.role q ≡ header
      at_head q y = ap A.role y ∙ wf.head_role

      go : (q j : ℕ) → q < N → j < W b → is_hand (A.role q) ≡ false → Dec (q ≡ 0) → Dec (j ≡ 4) → word b (put b m 0 4 (addr b d)) q j ≡ role_word b f (set_cur A d) (cell b A) (A.role q) q j
      go q j a β n (yes y) (yes z) =
          let p : word b (put b m 0 4 (addr b d)) q j ≡ addr b d = rw (y, z) (word-put-same wide N m 0 4 (addr b d) en.sized (omega arith) four) in
          let r : role_word b f (set_cur A d) (cell b A) (A.role q) q j ≡ addr b d = ap (λ (r : Role). role_word b f (set_cur A d) (cell b A) r q j) (at_head q y) ∙ (rw z (four_is d)) in
          p ∙ sym r
      go q j a β n (yes y) (no z) =
          word-put-other wide m 0 4 (addr b d) q j four β (λ x. z x.1) ∙ en.says q j a β n ∙ ap (λ (r : Role). role_word b f A (cell b A) r q j) (at_head q y) ∙ head-same d j z
          ∙ ap (λ (r : Role). role_word b f (set_cur A d) (cell b A) r q j) (sym (at_head q y))
      go q j a β n (no y) z =
          word-put-other wide m 0 4 (addr b d) q j four β (λ x. y x.0) ∙ en.says q j a β n ∙ cur-same d (cell b A) (A.role q) q j (λ t. y (wf.head_only q (tag-zero (A.role q) t)))

  -- ---- a live flag

  flag_same : (d x : ℕ) (C : Cells) (r : Role) (q j : ℕ) → q ≢ d → role_word b f A C r q j ≡ role_word b f (set_flag A d x) C r q j
  unfolding role_word head_list desc_list
  flag_same d x C header q j n = refl
  flag_same d x C hand q j n = refl
  flag_same d x C blank q j n = refl
  flag_same d x C desc q j n = ap (λ (y : ℕ). get_or (desc_words b A q (y ∷ [])) j 0) (sym (upd_other A.vcli d x q n))
  flag_same d x C (root k e) q j n = refl
  flag_same d x C (lst e) q j n = refl
  flag_same d x C (tab k e y) q j n = refl

  pub flag-words : (d x : ℕ) → A.role d ≡ desc → Encodes b N f (put b m d 12 x) (set_flag A d x)
  unfolding role_word
  flag-words d x l =
      encodes_ext wide N f _ B (cell b A) (cell b B) (λ k e v. sym (cells_same b A B refl refl (λ q. (refl, refl)) k e v))
      (record { sized = put-sized wide N m d 12 x en.sized; says = λ q j a β n. go q j a β n (eqd q d) (eqd j 12) })
    where
      B : Abs
      B = set_flag A d x

      place : 12 < W b
      place = omega (arith, sixty_one wide)

      at : (q : ℕ) → q ≡ d → A.role q ≡ desc
      at q y = ap A.role y ∙ l

      go : (q j : ℕ) → q < N → j < W b → is_hand (A.role q) ≡ false → Dec (q ≡ d) → Dec (j ≡ 12)
          → word b (put b m d 12 x) q j ≡ role_word b f B (cell b A) (A.role q) q j
      go q j a β n (yes y) (yes z) =
          let p : word b (put b m d 12 x) q j ≡ x = rw (y, z) (word-put-same wide N m d 12 x en.sized (rw y at a) place) in
          let r : get_or (desc_list b B q) j 0 ≡ x = rw (y, z) (flag_word b B d ∙ upd_same A.vcli d x) in
          p ∙ sym (ap (λ (r : Role). role_word b f B (cell b A) r q j) (at q y) ∙ r)
      go q j a β n (yes y) (no z) =
          word-put-other wide m d 12 x q j place β (λ u. z u.1) ∙ en.says q j a β n ∙ ap (λ (r : Role). role_word b f A (cell b A) r q j) (at q y)
          ∙ desc-other b A q j z ∙ sym (desc-other b B q j z) ∙ ap (λ (r : Role). role_word b f B (cell b A) r q j) (sym (at q y))
      go q j a β n (no y) z =
          word-put-other wide m d 12 x q j place β (λ u. y u.0) ∙ en.says q j a β n ∙ flag_same d x (cell b A) (A.role q) q j y
