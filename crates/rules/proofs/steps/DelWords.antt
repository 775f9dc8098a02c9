-- delete_partition on the words, before and after: what each word of a table was and becomes, and the words where some of the pages have come back.
use mathlib.Core.Path.{◌≡◌, refl, sym, ap, ◌∙◌, subst}
use mathlib.Core.Logic.{◌≢◌}
use mathlib.Core.Bool.{Bool, true, false}
use mathlib.Core.Option.{Option, none, some}
use mathlib.Core.List.{List, [], ◌∷◌}
use Prim.Native.Nat.{ℕ, ◌+◌, ◌*◌, ◌≤◌, ◌<◌}
use lib.ListN.{length, get_or}
use Rattle.rules.proofs.model.Base.{eqd}
use Rattle.rules.proofs.model.Words.{W, addr, word, join, pte, wipe, wipe-sized, wipe-other}
use Rattle.rules.proofs.model.Abs.{Kind, pt, s1, s2, Role, header, hand, blank, desc, root, lst, tab, Hop, Three, Abs, parts, head_v, Seen, seek, Good, Owner, Tabs, WF, Cells, Encodes, EncodesC, is_hand, lent_word, seen_word, cell, role_word, desc_list, head_list, list_list, list_pairs}
use Rattle.rules.proofs.model.Apart.{cons_head}
use Rattle.rules.proofs.model.Facts.{nil_cons, seek-on, seek_nil, none-some, some_inj, not-hand, below-is, Like, like, in_range}
use Rattle.rules.proofs.model.Read.{cell-none, cell-some}
use Rattle.rules.proofs.model.Cells.{TabView, tab-view, table, no_table, role_word_else}
use Rattle.rules.proofs.model.Walk.{Fits}
use Rattle.rules.proofs.steps.Delete.{after, after-here, after_on, after_nil, cut, cut-none, cut-some, Fate, fate, through, owned, stays, del_a, DelPre, Stays, used, kept, with_owner, owner_with, seek-after, after-good, after-clear, maps-stays, D-parts, del_wf}

module _ {b : ℕ} (wide : 6 ≤ b) where
  -- only the cells of live partitions count
  pub ext_live : (N : ℕ) (fl : ℕ → Option ℕ) (f m : List ℕ) (A : Abs) → WF b N fl A → (C E : Cells) → ((k : Kind) (d v : ℕ) → A.role d ≡ desc → C k d v ≡ E k d v) → EncodesC b N f m A C → EncodesC b N f m A E
  unfolding role_word
  ext_live N fl f m A wf C E h en = record { sized = en.sized; says = λ q j l β n. en.says q j l β n ∙ go q j (tab-view (A.role q)) }
    where
      go : (q j : ℕ) → TabView (A.role q) → role_word b f A C (A.role q) q j ≡ role_word b f A E (A.role q) q j
      go q j (no_table e) = role_word_else wide f A C E (A.role q) q j e
      go q j (table k d i e) = rw e (h k d (join b i j) (wf.tab_inv k d i q e).0)

  -- a page in hand may be wiped
  pub wipe-hand : (N : ℕ) (f m : List ℕ) (A : Abs) (C : Cells) (p : ℕ) → A.role p ≡ hand → EncodesC b N f m A C → EncodesC b N f (wipe b m p) A C
  wipe-hand N f m A C p e en = record { sized = wipe-sized wide N m p en.sized; says = λ q j l β n. wipe-other wide m p q j β (λ x. not-hand e (rw x at n)) ∙ en.says q j l β n }

unfoldable pub choose : Bool → ℕ → ℕ → ℕ
choose true x y = x
choose false x y = y

pub either : (β : Bool) {x y : ℕ} → y ≡ x → choose β x y ≡ x
unfolding choose
either true e = refl
either false e = e

pub cons_hop : {x y : Hop} {xs ys : List Hop} → x ∷ xs ≡ y ∷ ys → x ≡ y
cons_hop e = cc

module _ {b : ℕ} (wide : 6 ≤ b) where
  -- the cells of a chain behind D, and of another function that agrees there
  fits_after : (a : Bool) (C : Cells) (p D : ℕ) (hs t : List Hop) → Fits b a C p hs → after D hs ≡ some t → Fits b a C p t
  fits_after a C p D [] t g e = none-some (sym (after_nil D) ∙ e)
  fits_after a C p D (h ∷ hs) t g e = go (eqd h.part D) (λ x. fits_after a C p D hs t g.1 x)
    where
      go : Dec (h.part ≡ D) → (after D hs ≡ some t → Fits b a C p t) → Fits b a C p t
      go (yes y) ih = subst (λ (z : List Hop). Fits b a C p z) (some_inj (sym (after-here D h hs y) ∙ e)) g.1
      go (no n) ih = ih (sym (after_on D h hs n) ∙ e)

  pub fits_cut : (a : Bool) (C : Cells) (p D : ℕ) (hs : List Hop) → Fits b a C p hs → Fits b a C p (cut D hs)
  fits_cut a C p D hs g = go (after D hs) refl
    where
      go : (x : Option (List Hop)) → after D hs ≡ x → Fits b a C p (cut D hs)
      go none e = rw (cut-none D hs e) g
      go (some t) e = rw (cut-some D hs t e) (fits_after a C p D hs t g e)

  pub fits_ext : (X : Abs) (a : Bool) (C E : Cells) (p : ℕ) (hs : List Hop) → ((d v : ℕ) → X.maps d v ≡ some p → (C pt d v ≡ E pt d v) × (C s2 d v ≡ E s2 d v)) → Good b X p hs → Fits b a C p hs → Fits b a E p hs
  fits_ext X a C E p [] h g t = tt
  fits_ext X a C E p (x ∷ xs) h g t =
      let y = h x.part x.vp g.0.mapped in
      ((sym y.0 ∙ t.0.0, sym y.1 ∙ t.0.1), fits_ext X a C E p xs h g.1 t.1)

  module _ (N : ℕ) (fl : ℕ → Option ℕ) (f : List ℕ) (A : Abs) (wf : WF b N fl A) (o D : ℕ) (pre : DelPre A o D) where
    abbrev B : Abs
    B = del_a A D

    w_b : WF b N fl B
    w_b = del_wf wide N fl A wf o D pre

    chain-kept : (q : ℕ) → Stays A D q → cut D (A.chain q) ≡ A.chain q
    chain-kept q s = cut-none D (A.chain q) s.clear

    -- the words of pages that stay
    desc-kept : (q : ℕ) → A.role q ≡ desc → Stays A D q → desc_list b A q ≡ desc_list b B q
    unfolding desc_list
    desc-kept q l s =
        let own : (p : ℕ) (r : Role) → A.role p ≡ r → Owner r p q → cut D (A.chain p) ≡ A.chain p = λ p r e w. chain-kept p (with_owner wide N fl A wf o D pre p q (subst (λ (z : Role). Owner z p q) (sym e) w) s) in
        sym (rw (chain-kept q s, own (A.rootp pt q) (root pt q) (wf.root_role pt q l) refl, own (A.rootp s1 q) (root s1 q) (wf.root_role s1 q l) refl, own (A.rootp s2 q) (root s2 q) (wf.root_role s2 q l) refl, own (A.lstp q) (lst q) (wf.lst_role q l) refl) refl)

    pairs-kept : (d : ℕ) (ts : List Three) → Stays A D d → Tabs b A.role d ts → list_pairs b A.chain ts ≡ list_pairs b B.chain ts
    unfolding list_pairs
    pairs-kept d [] s g = refl
    pairs-kept d (t ∷ ts) s g =
        let own : (k : Kind) → cut D (A.chain (t.page k)) ≡ A.chain (t.page k) = λ k. chain-kept (t.page k) (with_owner wide N fl A wf o D pre (t.page k) d (subst (λ (z : Role). Owner z (t.page k) d) (sym (g.0.pages k)) refl) s) in
        rw (own pt, own s1, own s2, ← (pairs-kept d ts s g.1)) refl

    word_kept : (C : Cells) (q j : ℕ) (r : Role) → A.role q ≡ r → Stays A D q → role_word b f A C r q j ≡ role_word b f B C r q j
    unfolding role_word head_list list_list
    word_kept C q j header e s = refl
    word_kept C q j hand e s = refl
    word_kept C q j blank e s = refl
    word_kept C q j desc e s = ap (λ (l : List ℕ). get_or l j 0) (desc-kept q e s)
    word_kept C q j (root k d) e s = refl
    word_kept C q j (lst d) e s = ap (λ (l : List ℕ). get_or ((1 + 6 * length (A.threes d)) ∷ l) j 0) (pairs-kept d (A.threes d) (owner_with wide N fl A wf o D pre q d (subst (λ (z : Role). Owner z q d) (sym e) refl) s) (wf.tabs d (wf.lst_inv d q e).0))
    word_kept C q j (tab k d i) e s = refl

    -- the same memory, seen from the new state
    start : (m : List ℕ) → Encodes b N f m A → EncodesC b N f m B (cell b A)
    start m en = record { sized = en.sized; says = go }
      where
        go : (q j : ℕ) → q < N → j < W b → is_hand (B.role q) ≡ false → word b m q j ≡ role_word b f B (cell b A) (B.role q) q j
        go q j l β n =
            let u = used wide N fl A wf o D pre q (B.role q) n refl in
            en.says q j l β (ap is_hand u.1 ∙ n) ∙ word_kept (cell b A) q j (A.role q) refl u.0 ∙ ap (λ (r : Role). role_word b f B (cell b A) r q j) u.1

    -- pages that come back, and where they are first mapped then
    pub record Back (p : ℕ) : Type 0 where
      pub not_kept : ¬ (Stays A D p)
      pub hop : Hop
      pub rest : List Hop
      pub is : cut D (A.chain p) ≡ hop ∷ rest
      pub part : hop.part ≡ o
      pub clear : after D (hop ∷ rest) ≡ none

    pub back : (p : ℕ) → ¬ (Stays A D p) → Back p
    back p n = go (fate A D p)
      where
        mk : (K : List Hop) → cut D (A.chain p) ≡ K → parts K ≡ parts (A.chain D) → after D K ≡ none → Back p
        mk [] e q c = nil_cons (q ∙ D-parts wide N fl A wf o D pre)
        mk (h ∷ hs) e q c = record { not_kept = n; hop = h; rest = hs; is = e; part = cons_head (q ∙ D-parts wide N fl A wf o D pre); clear = c }

        go : Fate A D p → Back p
        go (through t e) = mk t (cut-some D (A.chain p) t e) (after-good wide N fl A wf o D pre p (A.chain p) t (wf.good p) e).1 (after-clear wide N fl A wf o D pre p (A.chain p) t (wf.good p) e)
        go (owned e w) = mk (A.chain p) (cut-none D (A.chain p) e) (wf.kernel p D w) e
        go (stays e k) = absurd (n (record { clear = e; other = k }))

    -- what a partition that stays sees of a page, before and after
    pub record Twice (d v p : ℕ) : Type 0 where
      pub s : Seen
      pub s' : Seen
      pub was : seek none d (A.chain p) ≡ some s
      pub now : seek none d (B.chain p) ≡ some s'
      pub vp : s'.vp ≡ v
      pub rt : s'.rt ≡ s.rt
      pub up : s'.up ≡ s.up
      pub same : d ≢ o → s' ≡ s
      pub now_maps : B.maps d v ≡ some p

    pub twice : (d v p : ℕ) → Stays A D d → A.maps d v ≡ some p → ¬ (Stays A D p) → Twice d v p
    twice d v p k e n = go (wf.seen d v p e).0 (wf.seen d v p e).1 (wf.seen d v p e).2 (fate A D p)
      where
        x : Back p
        x = back p n

        mm : B.maps d v ≡ some p
        mm = maps-stays wide N fl A wf o D pre d v k.clear k.other ∙ e

        go : (s : Seen) → seek none d (A.chain p) ≡ some s → s.vp ≡ v → Fate A D p → Twice d v p
        go s w z (stays a β) = absurd (n (record { clear = a; other = β }))
        go s w z (owned a β) = record { s = s; s' = s; was = w; now = rw (cut-none D (A.chain p) a) w; vp = z; rt = refl; up = refl; same = λ _. refl; now_maps = mm }
        go s w z (through t a) =
            let w' : seek (some D) d t ≡ some s = seek-after wide N fl A wf o D pre p d none (A.chain p) t s (wf.good p) a k w in
            let l : Like none d t s = like (some D) none d t s w' in
            let i : t ≡ x.hop ∷ x.rest = sym (cut-some D (A.chain p) t a) ∙ x.is in
            record {
              s = s;
              s' = l.to;
              was = w;
              now = rw (cut-some D (A.chain p) t a) l.finds;
              vp = l.vp ∙ z;
              rt = l.rt;
              up = l.up;
              same = λ m.
                  let q : d ≢ x.hop.part = λ y. m (y ∙ x.part) in
                  let u : seek none d (x.hop ∷ x.rest) ≡ some l.to = subst (λ (z : List Hop). seek none d z ≡ some l.to) i l.finds in
                  let u' : seek (some D) d (x.hop ∷ x.rest) ≡ some s = subst (λ (z : List Hop). seek (some D) d z ≡ some s) i w' in
                  some_inj (sym u ∙ seek-on none d x.hop x.rest q ∙ sym (seek-on (some D) d x.hop x.rest q) ∙ u');
              now_maps = mm;
            }

    -- below a partition that stays, in a chain without D, the partitions stay
    pub below_stays : (q d c : ℕ) (K : List Hop) (s : Seen) → Good b B q K → after D K ≡ none → Stays A D d → seek none d K ≡ some s → s.below ≡ some c → Stays A D c
    below_stays q d c K s g a k e n =
        let x : (B.role c ≡ desc) × (parts (B.chain c) ≡ d ∷ parts (B.chain d)) = below-is wide B q d c none K s g (λ y z. none-some z) e n in
        (used wide N fl A wf o D pre c desc refl x.0).0

    head-kept : (r : Role) (y : Option ℕ) → ((c : ℕ) → y ≡ some c → Stays A D c) → lent_word b A r y ≡ lent_word b B r y
    unfolding lent_word
    head-kept r none h = refl
    head-kept r (some c) h = ap (λ (z : List Hop). addr b (head_v z)) (sym (chain-kept c (h c refl)))

    pub lent-some : (r r' : Role) (c : ℕ) → Stays A D c → lent_word b A r (some c) ≡ lent_word b B r' (some c)
    unfolding lent_word
    lent-some r r' c h = ap (λ (z : List Hop). addr b (head_v z)) (sym (chain-kept c h))

    -- pages that stay have the same cells
    stay-cell : (k : Kind) (d v q : ℕ) → Stays A D d → A.maps d v ≡ some q → Stays A D q → cell b A k d v ≡ cell b B k d v
    unfolding seen_word
    stay-cell k d v q sd e sq = go k (wf.seen d v q e).0 (wf.seen d v q e).1
      where
        mm : B.maps d v ≡ some q
        mm = maps-stays wide N fl A wf o D pre d v sd.clear sd.other ∙ e

        now : (s : Seen) → seek none d (A.chain q) ≡ some s → seek none d (B.chain q) ≡ some s
        now s w = rw (chain-kept q sq) w

        r : B.role q ≡ A.role q
        r = (kept wide N fl A wf o D pre q sq).0

        go : (k : Kind) (s : Seen) → seek none d (A.chain q) ≡ some s → cell b A k d v ≡ cell b B k d v
        go pt s w = cell-some wide A pt d v q s e w ∙ sym (cell-some wide B pt d v q s mm (now s w) ∙ ap (λ (z : Role). pte b q (is_hand z) s.rt) r)
        go s1 s w = cell-some wide A s1 d v q s e w ∙ head-kept (A.role q) s.below (λ c n. below_stays q d c (cut D (A.chain q)) s (w_b.good q) (rw (chain-kept q sq) sq.clear) sd (now s w) n)
            ∙ sym (cell-some wide B s1 d v q s mm (now s w) ∙ ap (λ (z : Role). lent_word b B z s.below) r)
        go s2 s w = cell-some wide A s2 d v q s e w ∙ sym (cell-some wide B s2 d v q s mm (now s w))

    pub mapped-lt : (d v q : ℕ) → A.maps d v ≡ some q → q < N
    mapped-lt d v q e = go (A.chain q) refl (wf.seen d v q e).1
      where
        go : (hs : List Hop) → A.chain q ≡ hs → seek none d (A.chain q) ≡ some (wf.seen d v q e).0 → q < N
        go [] z w = none-some (sym (ap (seek none d) z ∙ seek_nil none d) ∙ w)
        go (h ∷ hs) z w = in_range wide N fl A wf q h hs z

    -- pages in S have been released
    unfoldable pub mix_o : (ℕ → Bool) → Option ℕ → ℕ → ℕ → ℕ
    mix_o S none x y = y
    mix_o S (some q) x y = choose (S q) x y

    unfoldable pub mix : (ℕ → Bool) → Cells
    mix S k d v = mix_o S (A.maps d v) (cell b B k d v) (cell b A k d v)

    pub mix-none : (S : ℕ → Bool) (k : Kind) (d v : ℕ) → A.maps d v ≡ none → mix S k d v ≡ cell b A k d v
    unfolding mix mix_o
    mix-none S k d v e = rw e refl

    pub mix-some : (S : ℕ → Bool) (k : Kind) (d v q : ℕ) → A.maps d v ≡ some q → mix S k d v ≡ choose (S q) (cell b B k d v) (cell b A k d v)
    unfolding mix mix_o
    mix-some S k d v q e = rw e refl

    -- none has, and all have
    abbrev pub none_yet : ℕ → Bool
    none_yet q = false

    pub begin : (m : List ℕ) → Encodes b N f m A → EncodesC b N f m B (mix none_yet)
    unfolding choose
    begin m en = ext_live wide N fl f m B w_b (cell b A) (mix none_yet) (λ k d v l. go k d v (A.maps d v) refl) (start m en)
      where
        go : (k : Kind) (d v : ℕ) (y : Option ℕ) → A.maps d v ≡ y → cell b A k d v ≡ mix none_yet k d v
        go k d v none e = sym (mix-none none_yet k d v e)
        go k d v (some q) e = sym (mix-some none_yet k d v q e)

    pub finish : (m : List ℕ) (S : ℕ → Bool) → ((p : ℕ) → S p ≡ false → p < N → Stays A D p) → EncodesC b N f m B (mix S) → Encodes b N f m B
    unfolding choose
    finish m S all en = ext_live wide N fl f m B w_b (mix S) (cell b B) (λ k d v l. go k d v (used wide N fl A wf o D pre d desc refl l).0 (A.maps d v) refl) en
      where
        go : (k : Kind) (d v : ℕ) → Stays A D d → (y : Option ℕ) → A.maps d v ≡ y → mix S k d v ≡ cell b B k d v
        go k d v sd none e = mix-none S k d v e ∙ cell-none wide A k d v e ∙ sym (cell-none wide B k d v (maps-stays wide N fl A wf o D pre d v sd.clear sd.other ∙ e))
        go k d v sd (some q) e = mix-some S k d v q e ∙ on (S q) refl
          where
            on : (β : Bool) → S q ≡ β → choose (S q) (cell b B k d v) (cell b A k d v) ≡ cell b B k d v
            on true z = ap (λ (β : Bool). choose β (cell b B k d v) (cell b A k d v)) z
            on false z = ap (λ (β : Bool). choose β (cell b B k d v) (cell b A k d v)) z ∙ stay-cell k d v q sd e (all q z (mapped-lt d v q e))
