-- The words of a new three: a word in each of the three roots, and six words and the count in the list.
use mathlib.Core.Path.{◌≡◌, refl, sym, ap, ◌∙◌, subst, subst₂}
use mathlib.Core.Logic.{◌≢◌}
use mathlib.Core.Bool.{false}
use mathlib.Core.Option.{Option, none, some}
use mathlib.Core.List.{List, [], ◌∷◌, ◌++◌}
use Prim.Native.Nat.{ℕ, zero, suc, ◌+◌, ◌-◌, ◌*◌, ◌≤◌, ◌<◌}
use native.Mathlib.Omega.{arith}
use native.Mathlib.Decide.{dec_lt}
use lib.ListN.{length, get_or}
use Rattle.rules.proofs.model.Base.{eqd, upd_same, upd_other}
use lib.ListN.{length-append, get_or-append, get_or-eq_default}
use lib.Seq.{get_or-append-add}
use Rattle.rules.proofs.model.Words.{W, word, put, join, link, Sized, put-sized, word-put-same, word-put-other, put_l, put_l-sized, put_l-other, put_l-at, put_l-before, twelve-lt, idx-join, list-fits}
use Rattle.rules.proofs.model.Abs.{Kind, pt, s1, s2, Role, header, hand, blank, desc, root, lst, tab, Hop, Three, Abs, three_at, WF, Encodes, is_hand, own_word, cell, role_word, desc_list, head_list, list_list, list_pairs, link_word, pair, tag}
use Rattle.rules.proofs.model.Alike.{cells_same}
use Rattle.rules.proofs.model.Apart.{pt-s1, pt-s2, s1-s2, root-part, lst-part}
use Rattle.rules.proofs.model.Facts.{differ}
use Rattle.rules.proofs.model.Read.{kernel-lt, cell-none, unmapped}
use Rattle.rules.proofs.steps.Prep.{PrepPre, new_three, prep_a, PrepView, is_P, is_old, view, at_append, at_last, at_on, at_nil, threes-new}

module _ (b : ℕ) where
  -- the list's words
  unfoldable pub six : (ℕ → List Hop) → (Kind → ℕ) → List ℕ
  six ch P = pair b ch (P pt) (pair b ch (P s1) (pair b ch (P s2) []))

module _ {b : ℕ} (wide : 6 ≤ b) where
  pairs-length : (ch : ℕ → List Hop) (ts : List Three) → length (list_pairs b ch ts) ≡ 6 * length ts
  unfolding list_pairs
  pairs-length ch [] = refl
  pairs-length ch (t ∷ ts) = let e = pairs-length ch ts in omega arith

  pairs_append : (ch : ℕ → List Hop) (ts : List Three) (i : ℕ) (P : Kind → ℕ) → list_pairs b ch (ts ++ new_three i P ∷ []) ≡ list_pairs b ch ts ++ six b ch P
  unfolding list_pairs six
  pairs_append ch [] i P = refl
  pairs_append ch (t ∷ ts) i P = rw (pairs_append ch ts i P) refl

module _ {b : ℕ} (wide : 6 ≤ b) where
  module _ (N : ℕ) (fl : ℕ → Option ℕ) (f : List ℕ) (A : Abs) (wf : WF b N fl A) (o c i : ℕ) (P : Kind → ℕ) (pre : PrepPre b A o c i P) where
    abbrev B : Abs
    B = prep_a A c i P

    abbrev R : Kind → ℕ
    R k = A.rootp k c

    abbrev L : ℕ
    L = A.lstp c

    abbrev n : ℕ
    n = length (A.threes c)

    -- no cell changes
    blank-same : (q : ℕ) → (is_hand (B.role q) ≡ is_hand (A.role q)) × (own_word (B.role q) ≡ own_word (A.role q))
    blank-same q = go (view wide N fl A wf o c i P pre q)
      where
        go : PrepView A c i P q (B.role q) → (is_hand (B.role q) ≡ is_hand (A.role q)) × (own_word (B.role q) ≡ own_word (A.role q))
        go (is_P k x y) = (ap is_hand y ∙ sym (ap is_hand (ap A.role x ∙ pre.P-blank k)), ap own_word y ∙ sym (ap own_word (ap A.role x ∙ pre.P-blank k)))
        go (is_old _ y) = (ap is_hand y, ap own_word y)

    prep_cells : (k : Kind) (d v : ℕ) → cell b B k d v ≡ cell b A k d v
    prep_cells = cells_same b A B refl refl blank-same

    R-role : (k : Kind) → A.role (R k) ≡ root k c
    R-role k = wf.root_role k c pre.live

    L-role : A.role L ≡ lst c
    L-role = wf.lst_role c pre.live

    lt : (q : ℕ) (r : Role) → A.role q ≡ r → is_hand r ≡ false → q < N
    lt q r e n = kernel-lt wide N fl A wf q (ap is_hand e ∙ n)

    -- three words of the roots, then the list's six and its count
    unfoldable pub prep_m : List ℕ → List ℕ
    prep_m m = put b (put_l b (put b (put b (put b m (R pt) i (link b (P pt))) (R s1) i (link b (P s1))) (R s2) i (link b (P s2))) L (1 + 6 * n) (six b A.chain P)) L 0 (1 + 6 * n + 6)

    six-length : length (six b A.chain P) ≡ 6
    unfolding six
    six-length = refl

    room : 1 + 6 * n + length (six b A.chain P) ≤ W b
    room = omega (arith, list-fits wide n pre.room, six-length)

    L-R : (k : Kind) → L ≢ R k
    L-R k e = differ (sym L-role ∙ ap A.role e ∙ R-role k) (omega arith)

    R-R : (k k' : Kind) → k ≢ k' → R k ≢ R k'
    R-R k k' m e =
        let w : root k c ≡ root k' c = sym (R-role k) ∙ ap A.role e ∙ R-role k' in
        let z : k ≡ k' = cc in
        m z

    abbrev m3 : List ℕ → List ℕ
    m3 m = put b (put b (put b m (R pt) i (link b (P pt))) (R s1) i (link b (P s1))) (R s2) i (link b (P s2))

    abbrev m4 : List ℕ → List ℕ
    m4 m = put_l b (m3 m) L (1 + 6 * n) (six b A.chain P)

    m3-off : (m : List ℕ) (q j : ℕ) → j < W b → ((k : Kind) → ¬ ((q ≡ R k) × (j ≡ i))) → word b (m3 m) q j ≡ word b m q j
    m3-off m q j β nr =
        word-put-other wide (put b (put b m (R pt) i (link b (P pt))) (R s1) i (link b (P s1))) (R s2) i _ q j pre.fits β (nr s2) ∙ word-put-other wide (put b m (R pt) i (link b (P pt))) (R s1) i _ q j pre.fits β (nr s1) ∙ word-put-other wide m (R pt) i _ q j pre.fits β (nr pt)

    m3-sized : (m : List ℕ) → Sized b N m → Sized b N (m3 m)
    m3-sized m s = put-sized wide N _ (R s2) i _ (put-sized wide N _ (R s1) i _ (put-sized wide N m (R pt) i _ s))

    m4-sized : (m : List ℕ) → Sized b N m → Sized b N (m4 m)
    m4-sized m s = put_l-sized wide N (m3 m) L (1 + 6 * n) (six b A.chain P) (m3-sized m s)

    zero-lt : 0 < W b
    zero-lt = twelve-lt wide 0 (omega arith)

    off_list : (m : List ℕ) (q j : ℕ) → j < W b → q ≢ L → word b (prep_m m) q j ≡ word b (m3 m) q j
    unfolding prep_m
    off_list m q j β nl = word-put-other wide (m4 m) L 0 _ q j zero-lt β (λ y. nl y.0) ∙ put_l-other wide (m3 m) L (1 + 6 * n) (six b A.chain P) q j room β nl

    on-root : (m : List ℕ) (k : Kind) → Sized b N m → word b (m3 m) (R k) i ≡ link b (P k)
    on-root m pt s =
        word-put-other wide _ (R s2) i _ (R pt) i pre.fits pre.fits (λ y. R-R pt s2 (λ e. pt-s2 e) y.0) ∙ word-put-other wide _ (R s1) i _ (R pt) i pre.fits pre.fits (λ y. R-R pt s1 (λ e. pt-s1 e) y.0)
        ∙ word-put-same wide N m (R pt) i _ s (lt (R pt) (root pt c) (R-role pt) refl) pre.fits
    on-root m s1 s =
        word-put-other wide _ (R s2) i _ (R s1) i pre.fits pre.fits (λ y. R-R s1 s2 (λ e. s1-s2 e) y.0) ∙ word-put-same wide N _ (R s1) i _ (put-sized wide N m (R pt) i _ s) (lt (R s1) (root s1 c) (R-role s1) refl) pre.fits
    on-root m s2 s = word-put-same wide N _ (R s2) i _ (put-sized wide N _ (R s1) i _ (put-sized wide N m (R pt) i _ s)) (lt (R s2) (root s2 c) (R-role s2) refl) pre.fits

    abbrev xs : List ℕ
    xs = list_pairs b A.chain (A.threes c)

    on_list : (m : List ℕ) (j : ℕ) → Sized b N m → j < W b → word b m L j ≡ get_or ((1 + 6 * n) ∷ xs) j 0 → word b (prep_m m) L j ≡ get_or ((1 + 6 * (1 + n)) ∷ (xs ++ six b A.chain P)) j 0
    unfolding prep_m
    on_list m zero s β e = word-put-same wide N (m4 m) L 0 _ (m4-sized m s) (lt L (lst c) L-role refl) zero-lt ∙ omega arith
    on_list m (suc j) s β e = word-put-other wide (m4 m) L 0 _ L (suc j) zero-lt β (λ y. omega (arith, y.1)) ∙ go (dec_lt j (6 * n))
      where
        old : word b (m3 m) L (suc j) ≡ get_or xs j 0
        old = m3-off m L (suc j) β (λ k y. L-R k y.0) ∙ e

        go : Dec (j < 6 * n) → word b (m4 m) L (suc j) ≡ get_or (xs ++ six b A.chain P) j 0
        go (yes l) = put_l-before wide (m3 m) L (1 + 6 * n) (six b A.chain P) (suc j) (omega arith) ∙ old ∙ sym (get_or-append xs (six b A.chain P) 0 j (omega (arith, pairs-length wide A.chain (A.threes c))))
        go (no l) =
            let h : length xs + (j - 6 * n) ≡ j = omega (arith, pairs-length wide A.chain (A.threes c)) in
            let z : get_or xs j 0 ≡ 0 = get_or-eq_default xs 0 {n = j} (omega (arith, pairs-length wide A.chain (A.threes c))) in
            let w : get_or (xs ++ six b A.chain P) j 0 ≡ get_or (six b A.chain P) (j - 6 * n) 0 = subst (λ (t : ℕ). get_or (xs ++ six b A.chain P) t 0 ≡ get_or (six b A.chain P) (j - 6 * n) 0) h (get_or-append-add xs (six b A.chain P) (j - 6 * n) 0) in
            put_l-at wide N (m3 m) L (1 + 6 * n) (six b A.chain P) (j - 6 * n) (suc j) (m3-sized m s) (lt L (lst c) L-role refl) (omega arith) β
            ∙ ap (get_or (six b A.chain P) (j - 6 * n)) (old ∙ z) ∙ sym w

    threes-other : (d : ℕ) → d ≢ c → B.threes d ≡ A.threes d
    threes-other d m = upd_other A.threes c _ d m

    threes-here : B.threes c ≡ A.threes c ++ new_three i P ∷ []
    threes-here = upd_same A.threes c _

    threes-off : (j : ℕ) → j ≢ i → three_at j (A.threes c ++ new_three i P ∷ []) ≡ three_at j (A.threes c)
    threes-off j m = go (three_at j (A.threes c)) refl
      where
        go : (x : Option Three) → three_at j (A.threes c) ≡ x → three_at j (A.threes c ++ new_three i P ∷ []) ≡ three_at j (A.threes c)
        go none e = at_last j (A.threes c) (new_three i P) e ∙ at_on j (new_three i P) [] m ∙ at_nil j ∙ sym e
        go (some x) e = at_append j (A.threes c) x (new_three i P) e ∙ sym e

    -- an old page's words
    old-word : (m : List ℕ) → Encodes b N f m A → (q j : ℕ) (r : Role) → A.role q ≡ r → is_hand r ≡ false → q < N → j < W b → word b (prep_m m) q j ≡ role_word b f B (cell b B) r q j
    unfolding role_word head_list desc_list list_list link_word
    old-word m en q j r e h l β = go r e h
      where
        says : (r : Role) → A.role q ≡ r → is_hand r ≡ false → word b m q j ≡ role_word b f A (cell b A) r q j
        says r e h = en.says q j l β (ap is_hand e ∙ h) ∙ ap (λ (z : Role). role_word b f A (cell b A) z q j) e

        same : (r : Role) → A.role q ≡ r → is_hand r ≡ false → tag r ≢ 4 → tag r ≢ 5 → word b (prep_m m) q j ≡ role_word b f A (cell b A) r q j
        same r e h n4 n5 =
            off_list m q j β (λ y. n5 (ap tag (sym e ∙ ap A.role y ∙ L-role))) ∙ m3-off m q j β (λ k y. n4 (ap tag (sym e ∙ ap A.role y.0 ∙ R-role k))) ∙ says r e h

        go : (r : Role) → A.role q ≡ r → is_hand r ≡ false → word b (prep_m m) q j ≡ role_word b f B (cell b B) r q j
        go header e h = same header e h (omega arith) (omega arith)
        go hand e h = let z : ◌≡◌ {A = ℕ} 0 1 = cc in absurd (omega arith)
        go blank e h = same blank e h (omega arith) (omega arith)
        go desc e h = same desc e h (omega arith) (omega arith)
        go (tab k d x) e h = same (tab k d x) e h (omega arith) (omega arith) ∙ sym (prep_cells k d (join b x j))
        go (root k d) e h = off_list m q j β (λ y. differ (sym e ∙ ap A.role y ∙ L-role) (omega arith)) ∙ on (eqd d c)
          where
            on : Dec (d ≡ c) → word b (m3 m) q j ≡ link_word b k (three_at j (B.threes d))
            on (no x) = m3-off m q j β (λ k' y. x (root-part (sym e ∙ ap A.role y.0 ∙ R-role k'))) ∙ says (root k d) e h ∙ ap (λ (t : List Three). link_word b k (three_at j t)) (sym (threes-other d x))
            on (yes x) = at (eqd j i)
              where
                q_r : q ≡ R k
                q_r = sym (rw x at (wf.root_inv k d q e).1)

                at : Dec (j ≡ i) → word b (m3 m) q j ≡ link_word b k (three_at j (B.threes d))
                at (yes y) =
                    let w : word b (m3 m) q j ≡ link b (P k) = rw (y, q_r) (on-root m k en.sized) in
                    w ∙ sym (ap (link_word b k) (subst₂ (λ (a z : ℕ). three_at a (B.threes z) ≡ some (new_three i P)) (sym y) (sym x) (threes-new wide N fl A wf o c i P pre)))
                at (no y) = m3-off m q j β (λ k' z. y z.1) ∙ says (root k d) e h ∙ ap (link_word b k) (subst (λ (z : ℕ). three_at j (A.threes z) ≡ three_at j (B.threes z)) (sym x) (sym (ap (three_at j) threes-here ∙ threes-off j y)))
        go (lst d) e h = on (eqd d c)
          where
            on : Dec (d ≡ c) → word b (prep_m m) q j ≡ get_or (list_list b A.chain (B.threes d)) j 0
            on (no x) = off_list m q j β (λ y. x (lst-part (sym e ∙ ap A.role y ∙ L-role))) ∙ m3-off m q j β (λ k y. differ (sym e ∙ ap A.role y.0 ∙ R-role k) (omega arith)) ∙ says (lst d) e h ∙ ap (λ (t : List Three). get_or (list_list b A.chain t) j 0) (sym (threes-other d x))
            on (yes x) =
                let q_l : q ≡ L = sym (rw x at (wf.lst_inv d q e).1) in
                let s : word b m L j ≡ get_or ((1 + 6 * n) ∷ xs) j 0 = subst₂ (λ (a z : ℕ). word b m a j ≡ get_or (list_list b A.chain (A.threes z)) j 0) q_l x (says (lst d) e h) in
                let w : word b (prep_m m) q j ≡ get_or ((1 + 6 * (1 + n)) ∷ (xs ++ six b A.chain P)) j 0 = rw q_l (on_list m j en.sized β s) in
                let t : list_list b A.chain (B.threes d) ≡ (1 + 6 * (1 + n)) ∷ (xs ++ six b A.chain P) = rw (x, threes-here, pairs_append wide A.chain (A.threes c) i P, length-append) (ap (λ (z : ℕ). (1 + 6 * z) ∷ (xs ++ six b A.chain P)) (omega arith)) in
                w ∙ sym (ap (λ (z : List ℕ). get_or z j 0) t)

    blank-word : (m : List ℕ) → Encodes b N f m A → (k : Kind) (j : ℕ) → j < W b → word b (prep_m m) (P k) j ≡ 0
    unfolding role_word
    blank-word m en k j β =
        off_list m (P k) j β (λ y. differ (sym (pre.P-blank k) ∙ ap A.role y ∙ L-role) (omega arith)) ∙ m3-off m (P k) j β (λ k' y. differ (sym (pre.P-blank k) ∙ ap A.role y.0 ∙ R-role k') (omega arith))
        ∙ en.says (P k) j (lt (P k) blank (pre.P-blank k) refl) β (ap is_hand (pre.P-blank k)) ∙ ap (λ (z : Role). role_word b f A (cell b A) z (P k) j) (pre.P-blank k)

    prep_sized : (m : List ℕ) → Sized b N m → Sized b N (prep_m m)
    unfolding prep_m
    prep_sized m s = put-sized wide N (m4 m) L 0 _ (m4-sized m s)

    pub prep_words : (m : List ℕ) → Encodes b N f m A → Encodes b N f (prep_m m) B
    unfolding role_word
    prep_words m en = record { sized = prep_sized m en.sized; says = λ q j l β h. go q j l β h (view wide N fl A wf o c i P pre q) }
      where
        go : (q j : ℕ) → q < N → j < W b → is_hand (B.role q) ≡ false → PrepView A c i P q (B.role q) → word b (prep_m m) q j ≡ role_word b f B (cell b B) (B.role q) q j
        go q j l β h (is_P k x y) =
            let w : word b (prep_m m) q j ≡ 0 = rw x (blank-word m en k j β) in
            rw y (w ∙ sym (cell-none wide B k c (join b i j) (unmapped wide N fl A wf c (join b i j) (ap (λ (z : ℕ). three_at z (A.threes c)) (idx-join wide i j β) ∙ pre.new))))
        go q j l β h (is_old _ y) = old-word m en q j (A.role q) refl (ap is_hand (sym y) ∙ h) l β ∙ ap (λ (z : Role). role_word b f B (cell b B) z q j) (sym y)
