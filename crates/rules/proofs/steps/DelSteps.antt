-- delete_partition on the words, a page at a time: a lent page is released, a kernel page is returned. Of pages in hand it is said which words they have.
use mathlib.Core.Path.{◌≡◌, refl, sym, ap, ◌∙◌, subst}
use mathlib.Core.Logic.{◌≢◌}
use mathlib.Core.Bool.{Bool, true, false, cond, not, ◌&&◌, ◌||◌, false≢true}
use mathlib.Core.Option.{Option, none, some}
use mathlib.Core.List.{List, ◌∷◌}
use Prim.Native.Nat.{ℕ, ◌≤◌, ◌<◌}
use native.Mathlib.Omega.{arith}
use borrow.Author.Tests.{eqb-true, eqb-false}
use lib.Dec.{eqb}
use lib.Bits.{bit_and}
use lib.ListN.{length}
use Rattle.memory.specs.Entry.{write_right, holds}
use Rattle.memory.proofs.Geometry.{page-address}
use Rattle.rules.specs.Moves.{return_page}
use Rattle.rules.specs.Effects.{release}
use Rattle.rules.proofs.model.Base.{eqd, upd, upd_same, upd_other}
use Rattle.rules.proofs.model.Words.{W, addr, word, idx, pte, page_of, acc_of, rights_of, bit}
use Rattle.rules.proofs.model.Words.{page_of-pte, acc_of-pte, rights_of-pte, wipe, wipe-other, wipe-same}
use Rattle.rules.proofs.model.Abs.{Kind, pt, s1, s2, Role, hand, desc, Hop, Three, Abs, head_v, Seen, seek, three_at, GoodHop}
use Rattle.rules.proofs.model.Abs.{Good, WF, Cells, Encodes, EncodesC, is_hand, own_word, lent_word, seen_word, cell}
use Rattle.rules.proofs.model.Apart.{pt-s1, pt-s2, s1-s2}
use Rattle.rules.proofs.model.Facts.{seek-here, in_range, none-some, some_inj, Top, top as top-hop}
use Rattle.rules.proofs.model.Read.{root_page, entry_at, put_at, entry-three, cell-some}
use Rattle.rules.proofs.model.Cells.{Same, samed, upd_c, upd_c-same, upd_c-other, set-cell, set-hand}
use Rattle.rules.proofs.model.Walk.{walk, walked, walk-hand, flag, flag-kind, flag-none, flag-hit, Fits, fits, hop-depth, encodes_ext}
use Rattle.rules.proofs.model.Take.{give_is, keep-is}
use Rattle.rules.proofs.steps.Delete.{cut, del_a, DelPre, Stays, used, gone, kept, maps-used, o-stays, del_wf}
use Rattle.rules.proofs.steps.DelWords.{ext_live, wipe-hand, choose, either, cons_hop, fits_cut, fits_ext, Back, Twice, twice, below_stays, lent-some, mix, mix-none, mix-some}

module _ {b : ℕ} (wide : 6 ≤ b) (N : ℕ) (fl : ℕ → Option ℕ) (f : List ℕ) (A : Abs) (wf : WF b N fl A) (o D : ℕ) (pre : DelPre A o D) where
  abbrev B : Abs
  B = del_a A D

  w_b : WF b N fl B
  w_b = del_wf wide N fl A wf o D pre

  abbrev Mix : (ℕ → Bool) → Cells
  Mix = mix wide N fl f A wf o D pre

  abbrev Returns : ℕ → Type 0
  Returns = Back wide N fl f A wf o D pre

  -- whether o holds write on page p, by its word for it before the call
  abbrev Writes : ℕ → Bool
  Writes p = holds write_right (cell b A pt o (head_v (cut D (A.chain p))))

  -- whether the page is wiped when it comes back: it was a kernel page, or o holds write on it
  abbrev pub Wiped : ℕ → Bool
  Wiped p = not (is_hand (A.role p)) || Writes p

  -- m in the midst of the call: tables with the cells C, and the words of pages in hand where those in S have come back. Before the call they were m₀'s.
  pub record Midway (m₀ : List ℕ) (C : Cells) (S : ℕ → Bool) (m : List ℕ) : Type 0 where
    pub tables : EncodesC b N f m B C
    pub hands : (q j : ℕ) → B.role q ≡ hand → j < W b → word b m q j ≡ choose (S q && Wiped q) 0 (word b m₀ q j)

  -- p comes back; the pages in S have come back already
  module _ (p : ℕ) (x : Returns p) (S : ℕ → Bool) where
    abbrev u : ℕ
    u = x.hop.vp

    abbrev S' : ℕ → Bool
    S' = upd S p true

    abbrev See : ℕ → ℕ → Type 0
    See d v = Twice wide N fl f A wf o D pre d v p

    see : (d v : ℕ) → Stays A D d → A.maps d v ≡ some p → See d v
    see d v sd e = twice wide N fl f A wf o D pre d v p sd e x.not_kept

    mixed : (k : Kind) (d v : ℕ) → A.maps d v ≡ some p → Mix S k d v ≡ choose (S p) (cell b B k d v) (cell b A k d v)
    mixed k d v e = mix-some wide N fl f A wf o D pre S k d v p e

    role-now : B.role p ≡ hand
    role-now = gone wide N fl A wf o D pre p x.not_kept

    so : Stays A D o
    so = o-stays wide N fl A wf o D pre

    g : GoodHop b B p x.hop x.rest × Good b B p x.rest
    g = subst (Good b B p) x.is (w_b.good p)

    -- the page's first place, in o
    at-B : B.maps o u ≡ some p
    at-B = subst (λ (z : ℕ). B.maps z u ≡ some p) x.part g.0.mapped

    pub at-A : A.maps o u ≡ some p
    at-A = (maps-used wide N fl A wf o D pre o u p at-B).1

    sees-now : seek none o (B.chain p) ≡ some (record { vp = u; rt = x.hop.rt; up = head_v x.rest; below = none })
    sees-now = subst (λ (z : List Hop). seek none o z ≡ some (record { vp = u; rt = x.hop.rt; up = head_v x.rest; below = none })) (sym x.is) (seek-here none o x.hop x.rest (sym x.part))

    -- afterwards the page is in hand of o
    cell-pt-B : (d v : ℕ) (s : Seen) → B.maps d v ≡ some p → seek none d (B.chain p) ≡ some s → cell b B pt d v ≡ pte b p true s.rt
    unfolding seen_word
    cell-pt-B d v s e w = cell-some wide B pt d v p s e w ∙ ap (λ (r : Role). pte b p (is_hand r) s.rt) role-now

    cell-s1-B : cell b B s1 o u ≡ 0
    unfolding seen_word lent_word
    cell-s1-B = cell-some wide B s1 o u p _ at-B sees-now ∙ ap own_word role-now

    -- shadow 2 is as it was, and shadow 1 above o
    cell-s2-same : (d v : ℕ) → Stays A D d → A.maps d v ≡ some p → cell b A s2 d v ≡ cell b B s2 d v
    unfolding seen_word
    cell-s2-same d v sd e =
        let t : See d v = see d v sd e in
        cell-some wide A s2 d v p t.s e t.was ∙ ap (addr b) (sym t.up) ∙ sym (cell-some wide B s2 d v p t.s' t.now_maps t.now)

    cell-s1-same : (d v : ℕ) → Stays A D d → A.maps d v ≡ some p → d ≢ o → cell b A s1 d v ≡ cell b B s1 d v
    unfolding seen_word
    cell-s1-same d v sd e n =
        cell-some wide A s1 d v p t.s e t.was ∙ ap (λ (z : Seen). lent_word b A (A.role p) z.below) (sym (t.same n)) ∙ go t.s'.below refl
        ∙ sym (cell-some wide B s1 d v p t.s' t.now_maps t.now)
      where
        t : See d v
        t = see d v sd e

        go : (y : Option ℕ) → t.s'.below ≡ y → lent_word b A (A.role p) t.s'.below ≡ lent_word b B (B.role p) t.s'.below
        go none z =
            let q : Top d (B.chain p) t.s' = top-hop B d (B.chain p) t.s' t.now z in
            absurd (n (sym q.part ∙ ap (λ (h : Hop). h.part) (cons_hop (sym q.is ∙ x.is)) ∙ x.part))
        go (some c) z = ap (lent_word b A (A.role p)) z ∙ lent-some wide N fl f A wf o D pre (A.role p) (B.role p) c (below_stays wide N fl f A wf o D pre p d c (B.chain p) t.s' (w_b.good p) (rw x.is x.clear) sd t.now z) ∙ ap (lent_word b B (B.role p)) (sym z)

    -- the accessible bit where the page is mapped
    abbrev is_open : Bool
    is_open = S p || is_hand (A.role p)

    pt-now : (d v : ℕ) → Stays A D d → A.maps d v ≡ some p → (t : See d v) → Mix S pt d v ≡ pte b p is_open t.s.rt
    unfolding choose seen_word
    pt-now d v sd e t = mixed pt d v e ∙ go (S p)
      where
        go : (β : Bool) → choose β (cell b B pt d v) (cell b A pt d v) ≡ pte b p (β || is_hand (A.role p)) t.s.rt
        go true = cell-pt-B d v t.s' t.now_maps t.now ∙ ap (pte b p true) t.rt
        go false = cell-some wide A pt d v p t.s e t.was

    -- ---- the word of shadow 1 is cleared, and the accessible bit set: that is the mix with one page more

    abbrev C1 : Cells
    C1 = upd_c (Mix S) s1 o u 0

    elsewhere : (k : Kind) (d v : ℕ) → (A.maps d v ≡ some p → ⊥) → C1 k d v ≡ Mix S' k d v
    elsewhere k d v n = upd_c-other (Mix S) s1 o u 0 k d v (λ y. n (rw (y.1.0, y.1.1) at-A)) ∙ go (A.maps d v) refl
      where
        go : (y : Option ℕ) → A.maps d v ≡ y → Mix S k d v ≡ Mix S' k d v
        go none e = mix-none wide N fl f A wf o D pre S k d v e ∙ sym (mix-none wide N fl f A wf o D pre S' k d v e)
        go (some q) e =
            mix-some wide N fl f A wf o D pre S k d v q e ∙ ap (λ (β : Bool). choose β (cell b B k d v) (cell b A k d v)) (sym (upd_other S p true q (λ z. n (rw z at e))))
            ∙ sym (mix-some wide N fl f A wf o D pre S' k d v q e)

    mix-p : (k : Kind) (d v : ℕ) → A.maps d v ≡ some p → Mix S' k d v ≡ cell b B k d v
    unfolding choose
    mix-p k d v e = mix-some wide N fl f A wf o D pre S' k d v p e ∙ ap (λ (β : Bool). choose β (cell b B k d v) (cell b A k d v)) (upd_same S p true)

    -- shadow 1 and shadow 2 at the page's places
    shadows : (k : Kind) (d v : ℕ) → Stays A D d → A.maps d v ≡ some p → k ≢ pt → C1 k d v ≡ Mix S' k d v
    shadows pt d v sd e n = absurd (n refl)
    shadows s2 d v sd e n = upd_c-other (Mix S) s1 o u 0 s2 d v (λ y. s1-s2 (sym y.0)) ∙ mixed s2 d v e ∙ either (S p) (cell-s2-same d v sd e) ∙ sym (mix-p s2 d v e)
    shadows s1 d v sd e n = go (eqd d o)
      where
        go : Dec (d ≡ o) → C1 s1 d v ≡ Mix S' s1 d v
        go (yes y) =
            let t : See d v = see d v sd e in
            let w : seek none d (B.chain p) ≡ some (record { vp = u; rt = x.hop.rt; up = head_v x.rest; below = none }) = rw y sees-now in
            let z : v ≡ u = sym t.vp ∙ ap (λ (q : Seen). q.vp) (some_inj (sym t.now ∙ w)) in
            let a : C1 s1 d v ≡ 0 = rw (y, z) (upd_c-same (Mix S) s1 o u 0) in
            let β : cell b B s1 d v ≡ 0 = rw (y, z) cell-s1-B in
            a ∙ sym β ∙ sym (mix-p s1 d v e)
        go (no y) = upd_c-other (Mix S) s1 o u 0 s1 d v (λ z. y z.1.0) ∙ mixed s1 d v e ∙ either (S p) (cell-s1-same d v sd e y) ∙ sym (mix-p s1 d v e)

    mapsd : (d v : ℕ) → Dec (A.maps d v ≡ some p)
    mapsd d v = go (A.maps d v) refl
      where
        go : (y : Option ℕ) → A.maps d v ≡ y → Dec (A.maps d v ≡ some p)
        go none e = no (λ z. none-some (sym e ∙ z))
        go (some q) e = on (eqd q p)
          where
            on : Dec (q ≡ p) → Dec (A.maps d v ≡ some p)
            on (yes y) = yes (e ∙ ap some y)
            on (no n) = no (λ z. n (some_inj (sym e ∙ z)))

    -- where the bit was set already
    open_cells : is_open ≡ true → (k : Kind) (d v : ℕ) → B.role d ≡ desc → C1 k d v ≡ Mix S' k d v
    open_cells h k d v l = go (mapsd d v) k
      where
        sd : Stays A D d
        sd = (used wide N fl A wf o D pre d desc refl l).0

        go : Dec (A.maps d v ≡ some p) → (k : Kind) → C1 k d v ≡ Mix S' k d v
        go (no n) k = elsewhere k d v n
        go (yes e) pt =
            let t : See d v = see d v sd e in
            upd_c-other (Mix S) s1 o u 0 pt d v (λ y. pt-s1 y.0) ∙ pt-now d v sd e t ∙ ap (λ (β : Bool). pte b p β t.s.rt) h
            ∙ ap (pte b p true) (sym t.rt) ∙ sym (cell-pt-B d v t.s' t.now_maps t.now) ∙ sym (mix-p pt d v e)
        go (yes e) s1 = shadows s1 d v sd e (λ y. pt-s1 (sym y))
        go (yes e) s2 = shadows s2 d v sd e (λ y. pt-s2 (sym y))

    -- and where the walk sets it
    walk-cells : (k : Kind) (d v : ℕ) → B.role d ≡ desc → flag b true p (x.hop ∷ x.rest) C1 k d v ≡ Mix S' k d v
    walk-cells k d v l = go (mapsd d v) k
      where
        sd : Stays A D d
        sd = (used wide N fl A wf o D pre d desc refl l).0

        go : Dec (A.maps d v ≡ some p) → (k : Kind) → flag b true p (x.hop ∷ x.rest) C1 k d v ≡ Mix S' k d v
        go (no n) k = flag-none wide B true p (x.hop ∷ x.rest) C1 k d v g (λ z. n (maps-used wide N fl A wf o D pre d v p z).1) ∙ elsewhere k d v n
        go (yes e) pt =
            let t : See d v = see d v sd e in
            flag-hit wide B true p (x.hop ∷ x.rest) C1 d v none t.s' g (subst (λ (z : List Hop). seek none d z ≡ some t.s') x.is t.now) t.vp
            ∙ sym (cell-pt-B d v t.s' t.now_maps t.now) ∙ sym (mix-p pt d v e)
        go (yes e) s1 = flag-kind wide true p (x.hop ∷ x.rest) C1 s1 d v (λ y. pt-s1 (sym y)) ∙ shadows s1 d v sd e (λ y. pt-s1 (sym y))
        go (yes e) s2 = flag-kind wide true p (x.hop ∷ x.rest) C1 s2 d v (λ y. pt-s2 (sym y)) ∙ shadows s2 d v sd e (λ y. pt-s2 (sym y))

    walk-fits : Fits b is_open C1 p (x.hop ∷ x.rest)
    unfolding choose
    walk-fits = go (S p) refl
      where
        to : (β : Bool) (C : Cells) → ((k : Kind) (d v : ℕ) → A.maps d v ≡ some p → Mix S k d v ≡ C k d v) → Fits b β C p (x.hop ∷ x.rest) → Fits b β C1 p (x.hop ∷ x.rest)
        to β C m = fits_ext wide B β C C1 p (x.hop ∷ x.rest)
            (λ d v w. let w' : A.maps d v ≡ some p = (maps-used wide N fl A wf o D pre d v p w).1 in
            (sym (upd_c-other (Mix S) s1 o u 0 pt d v (λ y. pt-s1 y.0) ∙ m pt d v w'), sym (upd_c-other (Mix S) s1 o u 0 s2 d v (λ y. s1-s2 (sym y.0)) ∙ m s2 d v w'))) g

        go : (β : Bool) → S p ≡ β → Fits b (S p || is_hand (A.role p)) C1 p (x.hop ∷ x.rest)
        go true e = subst (λ (β : Bool). Fits b (β || is_hand (A.role p)) C1 p (x.hop ∷ x.rest)) (sym e) (to true (cell b B) (λ k d v w. mixed k d v w ∙ ap (λ (β : Bool). choose β (cell b B k d v) (cell b A k d v)) e) (rw (role-now, x.is) at (fits wide N fl B w_b p)))
        go false e = subst (λ (β : Bool). Fits b (β || is_hand (A.role p)) C1 p (x.hop ∷ x.rest)) (sym e) (to (is_hand (A.role p)) (cell b A) (λ k d v w. mixed k d v w ∙ ap (λ (β : Bool). choose β (cell b B k d v) (cell b A k d v)) e) (rw x.is at (fits_cut wide _ (cell b A) p D (A.chain p) (fits wide N fl A wf p))))

    -- ---- on the words

    o-live : B.role o ≡ desc
    o-live = (kept wide N fl A wf o D pre o so).0 ∙ pre.live

    place : (y : Three) × (three_at (idx b u) (A.threes o) ≡ some y)
    place = subst (λ (z : ℕ). (y : Three) × (three_at (idx b u) (A.threes z) ≡ some y)) x.part g.0.three

    -- what o's page table says of the page
    word-now : (m : List ℕ) (C : Cells) → EncodesC b N f m B C → C pt o u ≡ Mix S pt o u → entry_at b m pt o u ≡ pte b p is_open x.hop.rt
    word-now m C en c =
        let t : See o u = see o u so at-A in
        let r : t.s.rt ≡ x.hop.rt = sym t.rt ∙ ap (λ (z : Seen). z.rt) (some_inj (sym t.now ∙ sees-now)) in
        (entry-three wide N fl B w_b f m C en pt o u place.0 o-live place.1).2 ∙ c ∙ pt-now o u so at-A t ∙ ap (pte b p is_open) r

    -- the page is wiped or not: other pages in hand keep their words
    wipe-tables : (t : Bool) (m : List ℕ) → EncodesC b N f m B C1 → EncodesC b N f (cond t (wipe b m p) m) B C1
    wipe-tables true m en = wipe-hand wide N f m B C1 p role-now en
    wipe-tables false m en = en

    wipe-word : (t : Bool) (m : List ℕ) → EncodesC b N f m B C1 → (j : ℕ) → j < W b
        → word b (cond t (wipe b m p) m) p j ≡ choose t 0 (word b m p j)
    unfolding choose
    wipe-word true m en j k = wipe-same wide N m p j en.sized (in_range wide N fl B w_b p x.hop x.rest x.is) k
    wipe-word false m en j k = refl

    wipe-apart : (t : Bool) (m : List ℕ) (q j : ℕ) → q ≢ p → j < W b → word b (cond t (wipe b m p) m) q j ≡ word b m q j
    wipe-apart true m q j n k = wipe-other wide m p q j k n
    wipe-apart false m q j n k = refl

    -- the words of pages in hand, where p is wiped or not, as t says
    come_back : (t : Bool) (m₀ m : List ℕ) → Midway m₀ C1 S m → ((w : ℕ) → choose t 0 (choose (S p && Wiped p) 0 w) ≡ choose (Wiped p) 0 w)
        → (q j : ℕ) → B.role q ≡ hand → j < W b → word b (cond t (wipe b m p) m) q j ≡ choose (S' q && Wiped q) 0 (word b m₀ q j)
    come_back t m₀ m mid settle q j r k = go (eqd q p)
      where
        go : Dec (q ≡ p) → word b (cond t (wipe b m p) m) q j ≡ choose (S' q && Wiped q) 0 (word b m₀ q j)
        go (no n) =
            wipe-apart t m q j n k ∙ mid.hands q j r k
            ∙ ap (λ (s : Bool). choose (s && Wiped q) 0 (word b m₀ q j)) (sym (upd_other S p true q n))
        go (yes e) =
            rw e (wipe-word t m mid.tables j k ∙ ap (choose t 0) (mid.hands p j role-now k) ∙ settle (word b m₀ p j)
            ∙ ap (λ (s : Bool). choose (s && Wiped p) 0 (word b m₀ p j)) (sym (upd_same S p true)))

    pub cleared : (m₀ m : List ℕ) → Midway m₀ (Mix S) S m → Midway m₀ C1 S (put_at b m s1 o u 0)
    cleared m₀ m mid = record {
      tables = set-cell wide N fl f B w_b m (Mix S) mid.tables s1 o u place.0 o-live place.1 0;
      hands = λ q j r k. set-hand wide N fl f B w_b m (Mix S) mid.tables s1 o u place.0 o-live place.1 0 q j r k ∙ mid.hands q j r k;
    }

    entry-now : (m : List ℕ) → EncodesC b N f m B C1 → entry_at b m pt o u ≡ pte b p is_open x.hop.rt
    entry-now m en = word-now m C1 en (upd_c-other (Mix S) s1 o u 0 pt o u (λ y. pt-s1 y.0))

    page-now : (m : List ℕ) → EncodesC b N f m B C1 → page_of b (entry_at b m pt o u) ≡ p
    page-now m en = ap (page_of b) (entry-now m en) ∙ page_of-pte wide p is_open x.hop.rt g.0.small

    -- a kernel page
    pub returned : (m₀ m : List ℕ) → is_hand (A.role p) ≡ false → Midway m₀ C1 S m
        → Midway m₀ (Mix S') S' (return_page b true m o (addr b u))
    unfolding choose
    returned m₀ m h mid =
        rw (give_is b m o u, page-now m mid.tables) (subst (λ (z : ℕ). Midway m₀ (Mix S') S' (walk b true 9 (wipe b m p) z u)) x.part (record {
          tables = ext_live wide N fl f _ B w_b _ (Mix S') walk-cells
              (walked wide N fl f B w_b p is_open true 9 x.hop x.rest (wipe b m p) C1 short g walk-fits now);
          hands = λ q j r k. walk-hand wide N fl f B w_b p is_open true 9 x.hop x.rest (wipe b m p) C1 short g walk-fits now q j r k
              ∙ come_back true m₀ m mid (λ w. sym (ap (λ (t : Bool). choose (not t || Writes p) 0 w) h)) q j r k;
        }))
      where
        now : EncodesC b N f (wipe b m p) B C1
        now = wipe-tables true m mid.tables

        short : length x.rest < 9
        short = omega (arith, w_b.depth x.hop.part g.0.live, hop-depth wide B p x.hop x.rest g.0)

    -- a page that was no kernel page
    writes_same : holds write_right (pte b p is_open x.hop.rt) ≡ Writes p
    unfolding seen_word rights_of
    writes_same =
        let t : See o u = see o u so at-A in
        let r : t.s.rt ≡ x.hop.rt = sym t.rt ∙ ap (λ (z : Seen). z.rt) (some_inj (sym t.now ∙ sees-now)) in
        let e : cell b A pt o (head_v (cut D (A.chain p))) ≡ pte b p (is_hand (A.role p)) x.hop.rt =
        ap (λ (hs : List Hop). cell b A pt o (head_v hs)) x.is ∙ cell-some wide A pt o u p t.s at-A t.was ∙ ap (pte b p (is_hand (A.role p))) r in
        let rights : (β : Bool) → rights_of (pte b p β x.hop.rt) ≡ x.hop.rt = λ β. rights_of-pte wide p β x.hop.rt g.0.small in
        ap (λ (z : ℕ). eqb (bit_and write_right z) write_right) (rights is_open ∙ sym (ap rights_of e ∙ rights (is_hand (A.role p))))

    settled : (s h t : Bool) → (s || h) ≡ true → (w : ℕ) → choose t 0 (choose (s && (not h || t)) 0 w) ≡ choose (not h || t) 0 w
    unfolding choose
    settled s h true e w = go h
      where
        go : (h : Bool) → 0 ≡ choose (not h || true) 0 w
        go true = refl
        go false = refl
    settled true h false e w = refl
    settled false true false e w = refl
    settled false false false e w = absurd (false≢true e)

    pub opened : (m₀ m : List ℕ) → is_open ≡ true → Midway m₀ C1 S m → Midway m₀ (Mix S') S' (return_page b false m o (addr b u))
    opened m₀ m h mid =
        let t = holds write_right (pte b p is_open x.hop.rt) in
        rw (keep-is b m o u, page-now m mid.tables, entry-now m mid.tables) (record {
          tables = ext_live wide N fl f _ B w_b C1 (Mix S') (open_cells h) (wipe-tables t m mid.tables);
          hands = come_back t m₀ m mid (λ w. rw (← writes_same) (settled (S p) (is_hand (A.role p)) t h w));
        })

    -- a lent page; it was a kernel page if it was not accessible
    pub release-page : (m₀ m : List ℕ) → Midway m₀ (Mix S) S m → Midway m₀ (Mix S') S' (release b m o (addr b u))
    unfolding put_at root_page entry_at addr acc_of
    release-page m₀ m mid = rw (page-address b u) (go (eqb (acc_of (entry_at b m pt o u)) 0) refl)
      where
        m₁ : List ℕ
        m₁ = put_at b m s1 o u 0

        bit_is : acc_of (entry_at b m pt o u) ≡ bit is_open
        bit_is = ap acc_of (word-now m (Mix S) mid.tables refl) ∙ acc_of-pte wide p is_open x.hop.rt g.0.small

        is_open_lem : (β : Bool) → bit β ≢ 0 → β ≡ true
        is_open_lem true n = refl
        is_open_lem false n = absurd (n refl)

        not-hand-then : (s h : Bool) → bit (s || h) ≡ 0 → h ≡ false
        not-hand-then s false e = refl
        not-hand-then true true e = absurd (omega arith)
        not-hand-then false true e = absurd (omega arith)

        go : (β : Bool) → eqb (acc_of (entry_at b m pt o u)) 0 ≡ β
            → Midway m₀ (Mix S') S' (return_page b (eqb (acc_of (entry_at b m pt o u)) 0) m₁ o (addr b u))
        go true e = rw e (returned m₀ m₁ (not-hand-then (S p) (is_hand (A.role p)) (sym bit_is ∙ eqb-true _ _ e)) (cleared m₀ m mid))
        go false e = rw e (opened m₀ m₁ (is_open_lem is_open (λ z. eqb-false _ _ e (bit_is ∙ z))) (cleared m₀ m mid))

    -- a kernel page, whose shadow 1 word is 0
    pub return-page : (m₀ m : List ℕ) → is_hand (A.role p) ≡ false → Mix S s1 o u ≡ 0 → Midway m₀ (Mix S) S m
        → Midway m₀ (Mix S') S' (return_page b true m o (addr b u))
    return-page m₀ m h z mid =
        let en = encodes_ext wide N f m B (Mix S) C1 (λ k d v. same k d v (samed k d v s1 o u)) mid.tables in
        returned m₀ m h (record { tables = en; hands = mid.hands })
      where
        same : (k : Kind) (d v : ℕ) → Dec (Same k d v s1 o u) → Mix S k d v ≡ C1 k d v
        same k d v (yes y) = rw (y.0, y.1.0, y.1.1, upd_c-same (Mix S) s1 o u 0) z
        same k d v (no n) = sym (upd_c-other (Mix S) s1 o u 0 k d v n)

    -- once all have come back it is in o's hand
    pub hand-now : (m : List ℕ) → Encodes b N f m B → (acc_of (entry_at b m pt o u) ≡ 1) × (entry_at b m s1 o u ≡ 0)
    hand-now m en =
        let read : (k : Kind) → entry_at b m k o u ≡ cell b B k o u =
        λ k. (entry-three wide N fl B w_b f m (cell b B) en k o u place.0 o-live place.1).2 in
        (ap acc_of (read pt ∙ cell-pt-B o u _ at-B sees-now) ∙ acc_of-pte wide p true x.hop.rt g.0.small, read s1 ∙ cell-s1-B)

    -- a page that has come back has shadow 1 word 0 in o
    pub back-lent : S p ≡ true → Mix S s1 o u ≡ 0
    unfolding choose
    back-lent e = mixed s1 o u at-A ∙ ap (λ (β : Bool). choose β (cell b B s1 o u) (cell b A s1 o u)) e ∙ cell-s1-B
