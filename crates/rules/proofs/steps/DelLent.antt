-- delete_partition on the words: the pages lent to the child are those whose shadow 1 word names it, and each is released.
use mathlib.Core.Path.{◌≡◌, refl, sym, ap, ◌∙◌, subst}
use mathlib.Core.Logic.{◌≢◌}
use mathlib.Core.Bool.{Bool, true, false, cond}
use mathlib.Core.Option.{Option, none, some}
use mathlib.Core.List.{List, [], ◌∷◌}
use Prim.Native.Nat.{ℕ, zero, suc, ◌+◌, ◌≤◌, ◌<◌}
use native.Mathlib.Omega.{arith}
use borrow.Author.Tests.{eqb-true, eqb-false}
use lib.Dec.{eqb}
use Rattle.memory.specs.Geometry.{address}
use Rattle.memory.specs.Partition.{lent}
use Rattle.memory.proofs.Geometry.{page-address}
use Rattle.rules.specs.Effects.{release, release_all}
use Rattle.rules.proofs.model.Base.{eqd, upd, upd_same, upd_other}
use Rattle.rules.proofs.model.Words.{W, addr, idx, words, idx-below, addr_inj, addr_nz, addr-not-one}
use Rattle.rules.proofs.model.Abs.{s1, desc, Hop, Three, three_at, Abs, parts, head_v, Seen, seek, Good, WF, Cells, EncodesC, own_word, lent_word, cell}
use Rattle.rules.proofs.model.Apart.{cons_head, own-small}
use Rattle.rules.proofs.model.Facts.{nil_cons, seek-here, seek-on, seek_nil, none-some, some_inj, below-is}
use Rattle.rules.proofs.model.Read.{root_page, entry_at, entry-three, entry-no-three, unmapped, cell-none, cell-s1, Maps, maps-at}
use Rattle.rules.proofs.steps.Delete.{after, after-here, after_on, cut, cut-some, del_a, DelPre, Stays, kept, seek-after, o-stays, D-parts, del_wf}
use Rattle.rules.proofs.steps.DelWords.{choose, back, mix, mix-none, mix-some}
use Rattle.rules.proofs.steps.DelSteps.{Midway, at-A, release-page}

-- what stands below o in a chain is in it
below-after : (o D : ℕ) (β : Option ℕ) (hs : List Hop) (s : Seen) → β ≢ some D → seek β o hs ≡ some s → s.below ≡ some D → (t : List Hop) × (after D hs ≡ some t)
below-after o D β [] s n e w = none-some (sym (seek_nil β o) ∙ e)
below-after o D β (h ∷ hs) s n e w = go (eqd h.part D) (eqd o h.part) (λ y z. below-after o D (some h.part) hs s y z w)
  where
    go : Dec (h.part ≡ D) → Dec (o ≡ h.part) → (some h.part ≢ some D → seek (some h.part) o hs ≡ some s → (t : List Hop) × (after D hs ≡ some t)) → (t : List Hop) × (after D (h ∷ hs) ≡ some t)
    go (yes y) z ih = (hs, after-here D h hs y)
    go (no y) (yes z) ih = absurd (n (ap (λ (q : Seen). q.below) (some_inj (sym (seek-here β o h hs z) ∙ e)) ∙ w))
    go (no y) (no z) ih = let r = ih (λ q. y (some_inj q)) (sym (seek-on β o h hs z) ∙ e) in (r.0, after_on D h hs y ∙ r.1)

module _ {b : ℕ} (wide : 6 ≤ b) (N : ℕ) (fl : ℕ → Option ℕ) (f : List ℕ) (A : Abs) (wf : WF b N fl A) (o D : ℕ) (pre : DelPre A o D) where
  abbrev B : Abs
  B = del_a A D

  w_b : WF b N fl B
  w_b = del_wf wide N fl A wf o D pre

  abbrev Mix : (ℕ → Bool) → Cells
  Mix = mix wide N fl f A wf o D pre

  -- where a page is first mapped afterwards
  abbrev At : ℕ → ℕ
  At p = head_v (cut D (A.chain p))

  -- the child's address
  abbrev c : ℕ
  c = addr b (head_v (A.chain D))

  -- p is lent to D
  abbrev Lent : ℕ → Type 0
  Lent p = (t : List Hop) × (after D (A.chain p) ≡ some t)

  pub lent-gone : (p : ℕ) → Lent p → ¬ (Stays A D p)
  lent-gone p t s = none-some (sym s.clear ∙ t.1)

  -- a child of o has its first place in o
  child-at : (d : ℕ) → parts (A.chain d) ≡ o ∷ parts (A.chain o) → (A.maps o (head_v (A.chain d)) ≡ some d) × (head_v (A.chain d) ≢ 0)
  child-at d e = go (A.chain d) (wf.good d) e
    where
      go : (hs : List Hop) → Good b A d hs → parts hs ≡ o ∷ parts (A.chain o) → (A.maps o (head_v hs) ≡ some d) × (head_v hs ≢ 0)
      go [] g e = nil_cons e
      go (h ∷ hs) g e = (rw (cons_head e) at g.0.mapped, g.0.some_v)

  -- a lent page's word in o
  lent-word : (p v : ℕ) → Lent p → A.maps o v ≡ some p → cell b A s1 o v ≡ c
  unfolding lent_word
  lent-word p v t e =
      let x = back wide N fl f A wf o D pre p (lent-gone p t) in
      let w = wf.seen o v p e in
      let i : t.0 ≡ x.hop ∷ x.rest = sym (cut-some D (A.chain p) t.0 t.1) ∙ x.is in
      let y : seek (some D) o (x.hop ∷ x.rest) ≡ some w.0 = rw i at (seek-after wide N fl A wf o D pre p o none (A.chain p) t.0 w.0 (wf.good p) t.1 (o-stays wide N fl A wf o D pre) w.1) in
      let z : w.0.below ≡ some D = sym (ap (λ (q : Seen). q.below) (some_inj (sym (seek-here (some D) o x.hop x.rest (sym x.part)) ∙ y))) in
      cell-s1 wide A o v p w.0 e w.1 ∙ ap (lent_word b A (A.role p)) z

  -- no other page has that word
  pub word-lent : (v : ℕ) → cell b A s1 o v ≡ c → (p : ℕ) × (A.maps o v ≡ some p) × Lent p
  unfolding lent_word
  word-lent v e = go x.sees.below refl
    where
      own : (A.maps o (head_v (A.chain D)) ≡ some D) × (head_v (A.chain D) ≢ 0)
      own = child-at D (D-parts wide N fl A wf o D pre)

      x : Maps A o v
      x = maps-at wide N fl A wf s1 o v (λ z. addr_nz wide (head_v (A.chain D)) own.1 (sym e ∙ z))

      word : cell b A s1 o v ≡ lent_word b A (A.role x.page) x.sees.below
      word = cell-s1 wide A o v x.page x.sees x.maps x.finds

      go : (y : Option ℕ) → x.sees.below ≡ y → (p : ℕ) × (A.maps o v ≡ some p) × Lent p
      go none z =
          let k : c ≡ own_word (A.role x.page) = sym e ∙ word ∙ ap (lent_word b A (A.role x.page)) z in
          absurd (omega (arith, k, own-small (A.role x.page), addr_nz wide (head_v (A.chain D)) own.1, addr-not-one wide (head_v (A.chain D))))
      go (some d) z =
          let k : c ≡ addr b (head_v (A.chain d)) = sym e ∙ word ∙ ap (lent_word b A (A.role x.page)) z in
          let i = below-is wide A x.page o d none (A.chain x.page) x.sees (wf.good x.page) (λ q w. none-some w) x.finds z in
          let y : D ≡ d = some_inj (sym own.0 ∙ ap (A.maps o) (addr_inj wide _ _ k) ∙ (child-at d i.1).0) in
          (x.page, x.maps, below-after o D none (A.chain x.page) x.sees (λ q. none-some q) x.finds (z ∙ ap some (sym y)))

  -- a lent page has one place in o
  pub at_place : (p : ℕ) → Lent p → A.maps o (At p) ≡ some p
  at_place p t =
      let x = back wide N fl f A wf o D pre p (lent-gone p t) in
      ap (λ (hs : List Hop). A.maps o (head_v hs)) x.is ∙ at-A wide N fl f A wf o D pre p x (λ q. false)

  pub place : (p v : ℕ) → Lent p → A.maps o v ≡ some p → v ≡ At p
  place p v t e =
      let w = wf.seen o v p e in
      let y = wf.seen o (At p) p (at_place p t) in
      sym w.2 ∙ ap (λ (q : Seen). q.vp) (some_inj (sym w.1 ∙ y.1)) ∙ y.2

  -- ---- the loop over o's virtual pages

  -- the pages lent to D at places below i have been released; the memory was m₀ before the call
  pub record Released (m₀ : List ℕ) (i : ℕ) (m : List ℕ) : Type 0 where
    pub pages : ℕ → Bool
    pub mid : Midway wide N fl f A wf o D pre m₀ (Mix pages) pages m
    pub lent : (p : ℕ) → pages p ≡ true → Lent p
    pub all : (p : ℕ) → Lent p → At p < i → pages p ≡ true

  o-live : B.role o ≡ desc
  o-live = (kept wide N fl A wf o D pre o (o-stays wide N fl A wf o D pre)).0 ∙ pre.live

  word-is : (m : List ℕ) (S : ℕ → Bool) (v : ℕ) → EncodesC b N f m B (Mix S) → idx b v < W b → entry_at b m s1 o v ≡ Mix S s1 o v
  word-is m S v en l = go (three_at (idx b v) (A.threes o)) refl
    where
      go : (x : Option Three) → three_at (idx b v) (A.threes o) ≡ x → entry_at b m s1 o v ≡ Mix S s1 o v
      go none e =
          let n : A.maps o v ≡ none = unmapped wide N fl A wf o v e in
          entry-no-three wide N fl B w_b f m (Mix S) en s1 o v o-live l e ∙ sym (mix-none wide N fl f A wf o D pre S s1 o v n ∙ cell-none wide A s1 o v n)
      go (some t) e = (entry-three wide N fl B w_b f m (Mix S) en s1 o v t o-live e).2

  -- at i, a page that is not released yet
  not_yet : {m₀ : List ℕ} (i p : ℕ) (m : List ℕ) (r : Released m₀ i m) → idx b i < W b → A.maps o i ≡ some p → r.pages p ≡ false
      → entry_at b m s1 o i ≡ cell b A s1 o i
  unfolding choose
  not_yet i p m r l e n =
      word-is m r.pages i r.mid.tables l
      ∙ mix-some wide N fl f A wf o D pre r.pages s1 o i p e ∙ ap (λ (β : Bool). choose β (cell b B s1 o i) (cell b A s1 o i)) n

  -- the word at i names D: a page that is lent to D and was not released
  named : {m₀ : List ℕ} (i : ℕ) (m : List ℕ) (r : Released m₀ i m) → idx b i < W b → entry_at b m s1 o i ≡ c
      → (p : ℕ) × (A.maps o i ≡ some p) × Lent p
  named i m r l e = go (A.maps o i) refl
    where
      go : (y : Option ℕ) → A.maps o i ≡ y → (p : ℕ) × (A.maps o i ≡ some p) × Lent p
      go none z =
          word-lent i (cell-none wide A s1 o i z ∙ sym (mix-none wide N fl f A wf o D pre r.pages s1 o i z ∙ cell-none wide A s1 o i z)
          ∙ sym (word-is m r.pages i r.mid.tables l) ∙ e)
      go (some p) z = on (r.pages p) refl
        where
          on : (β : Bool) → r.pages p ≡ β → (p : ℕ) × (A.maps o i ≡ some p) × Lent p
          on true w = let t = r.lent p w in (p, z, t)
          on false w = word-lent i (sym (not_yet i p m r l z w) ∙ e)

  step-yes : {m₀ : List ℕ} (i p : ℕ) (m : List ℕ) → Released m₀ i m → A.maps o i ≡ some p → Lent p
      → Released m₀ (suc i) (release b m o (addr b i))
  step-yes {m₀} i p m r e t =
      let x = back wide N fl f A wf o D pre p (lent-gone p t) in
      let k : i ≡ At p = place p i t e in
      record {
        pages = upd r.pages p true;
        mid = subst (λ (v : ℕ). Midway wide N fl f A wf o D pre m₀ (Mix (upd r.pages p true)) (upd r.pages p true) (release b m o (addr b v)))
            (sym (k ∙ ap head_v x.is)) (release-page wide N fl f A wf o D pre p x r.pages m₀ m r.mid);
        lent = λ q z. lent q z (eqd q p);
        all = λ q u z. all q u z (eqd q p);
      }
    where
      lent : (q : ℕ) → upd r.pages p true q ≡ true → Dec (q ≡ p) → Lent q
      lent q z (yes y) = rw y t
      lent q z (no n) = r.lent q (sym (upd_other r.pages p true q n) ∙ z)

      all : (q : ℕ) → Lent q → At q < suc i → Dec (q ≡ p) → upd r.pages p true q ≡ true
      all q u z (yes y) = rw y (upd_same r.pages p true)
      all q u z (no n) =
          let k : At q ≢ i = λ w. n (some_inj (sym (at_place q u) ∙ ap (A.maps o) w ∙ e)) in
          upd_other r.pages p true q n ∙ r.all q u (omega arith)

  step-no : {m₀ : List ℕ} (i : ℕ) (m : List ℕ) → Released m₀ i m → idx b i < W b → entry_at b m s1 o i ≢ c → Released m₀ (suc i) m
  step-no i m r l n = record { pages = r.pages; mid = r.mid; lent = r.lent; all = λ q u z. all q u z (eqd (At q) i) (r.pages q) refl }
    where
      all : (q : ℕ) → Lent q → At q < suc i → Dec (At q ≡ i) → (β : Bool) → r.pages q ≡ β → r.pages q ≡ true
      all q u z y true w = w
      all q u z (no y) false w = r.all q u (omega arith)
      all q u z (yes y) false w =
          let e : A.maps o i ≡ some q = ap (A.maps o) (sym y) ∙ at_place q u in
          absurd (n (not_yet i q m r l e w ∙ lent-word q i u e))

  step : {m₀ : List ℕ} (i : ℕ) (m : List ℕ) → Released m₀ i m → idx b i < W b
      → Released m₀ (suc i) (cond (eqb (lent b m o (address b i)) c) (release b m o (address b i)) m)
  unfolding addr entry_at root_page
  step {m₀} i m r l = go (eqb (lent b m o (address b i)) c) refl
    where
      word : lent b m o (address b i) ≡ entry_at b m s1 o i
      word = rw (page-address b i) refl

      go : (β : Bool) → eqb (lent b m o (address b i)) c ≡ β
          → Released m₀ (suc i) (cond (eqb (lent b m o (address b i)) c) (release b m o (address b i)) m)
      go true e = let x = named i m r l (sym word ∙ eqb-true _ _ e) in rw e (step-yes i x.0 m r x.1 x.2)
      go false e = rw e (step-no i m r l (λ z. eqb-false _ _ e (word ∙ z)))

  pub all-released : {m₀ : List ℕ} (n i : ℕ) (m : List ℕ) → i + n ≤ words b → Released m₀ i m → Released m₀ (i + n) (release_all b n i m o c)
  unfolding release_all
  all-released zero i m l r = let e : i ≡ i + 0 = omega arith in rw (← e) r
  all-released (suc n) i m l r =
      let e : suc i + n ≡ i + suc n = omega arith in
      rw (← e) (all-released n (suc i) _ (omega arith) (step i m r (idx-below wide i (omega arith))))
