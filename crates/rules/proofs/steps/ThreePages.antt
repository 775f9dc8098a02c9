-- Three pages, one for each kind of table, are taken from a partition's hand or given back to it.
use mathlib.Core.Path.{◌≡◌, sym, ap, ◌∙◌}
use mathlib.Core.Logic.{◌≢◌}
use mathlib.Core.Bool.{true, false}
use mathlib.Core.Option.{Option}
use mathlib.Core.List.{List, [], ◌∷◌}
use Prim.Native.Nat.{ℕ, ◌≤◌, ◌<◌}
use native.Mathlib.Omega.{arith}
use lib.ListN.{length}
use Rattle.rules.specs.Moves.{return_page, take_all, return_all}
use Rattle.rules.proofs.model.Base.{eqd, upd, upd_same, upd_other}
use Rattle.rules.proofs.model.Words.{W, addr, word, idx, wipe, wipe-sized, wipe-same, wipe-other}
use Rattle.rules.proofs.model.Abs.{Kind, pt, s1, s2, Role, hand, blank, desc, Abs, Good, WF, Cells, Encodes, EncodesC, is_hand, cell, role_word}
use Rattle.rules.proofs.model.Apart.{pt-s1, pt-s2, s1-s2}
use Rattle.rules.proofs.model.Facts.{differ, in_range}
use Rattle.rules.proofs.model.Read.{entry-is}
use Rattle.rules.proofs.model.Roles.{set_role}
use Rattle.rules.proofs.model.Walk.{walk, flag, Fits, fits, hop-depth, walked}
use Rattle.rules.proofs.model.Take.{Held, held-step, give_is, first_fits, first-page, take-one, give_one}
use Rattle.rules.proofs.steps.Fill.{First}

-- the three with role R
abbrev pub set_three : Abs → (Kind → ℕ) → Role → Abs
set_three A P R = set_role (set_role (set_role A (P pt) R) (P s1) R) (P s2) R

role-stays : (r : ℕ → Role) (p q : ℕ) (R : Role) → r q ≡ R → upd r p R q ≡ R
role-stays r p q R e = go (eqd q p)
  where
    go : Dec (q ≡ p) → upd r p R q ≡ R
    go (yes y) = rw y (upd_same r p R)
    go (no n) = upd_other r p R q n ∙ e

pub on-three : (A : Abs) (P : Kind → ℕ) (R : Role) (k : Kind) → (set_three A P R).role (P k) ≡ R
on-three A P R pt = role-stays _ (P s2) (P pt) R (role-stays _ (P s1) (P pt) R (upd_same _ (P pt) R))
on-three A P R s1 = role-stays _ (P s2) (P s1) R (upd_same _ (P s1) R)
on-three A P R s2 = upd_same _ (P s2) R

pub off-three : (A : Abs) (P : Kind → ℕ) (R : Role) (q : ℕ) → ((k : Kind) → q ≢ P k) → (set_three A P R).role q ≡ A.role q
off-three A P R q n = upd_other _ (P s2) R q (n s2) ∙ upd_other _ (P s1) R q (n s1) ∙ upd_other A.role (P pt) R q (n pt)

-- a role that none of the three has is kept
pub keep-three : (A : Abs) (P : Kind → ℕ) (R S : Role) (q : ℕ) → A.role q ≡ S → ((k : Kind) → A.role (P k) ≢ S) → (set_three A P R).role q ≡ S
keep-three A P R S q e n = off-three A P R q (λ k y. n k (ap A.role (sym y) ∙ e)) ∙ e

role-keep : (A : Abs) (p : ℕ) (R S : Role) (q : ℕ) → A.role q ≡ S → A.role p ≢ S → (set_role A p R).role q ≡ S
role-keep A p R S q e n = upd_other A.role p R q (λ y. n (ap A.role (sym y) ∙ e)) ∙ e

module _ {b : ℕ} (wide : 6 ≤ b) (N : ℕ) (fl : ℕ → Option ℕ) (f : List ℕ) (A : Abs) (wf : WF b N fl A) (m : List ℕ) (en : Encodes b N f m A)
    (o : ℕ) (lo : A.role o ≡ desc) (p : ℕ) (free : A.role p ≡ blank) where
  blank-word : (m' : List ℕ) (C : Cells) → EncodesC b N f m' A C → p < N → (j : ℕ) → j < W b → word b m' p j ≡ 0
  unfolding role_word
  blank-word m' C e l j β = e.says p j l β (ap is_hand free) ∙ ap (λ (r : Role). role_word b f A C r p j) free

  wiped : p < N → Encodes b N f (wipe b m p) A
  unfolding role_word
  wiped l = record { sized = wipe-sized wide N m p en.sized; says = λ q j a β n. go q j a β n (eqd q p) }
    where
      go : (q j : ℕ) → q < N → j < W b → is_hand (A.role q) ≡ false → Dec (q ≡ p) → word b (wipe b m p) q j ≡ role_word b f A (cell b A) (A.role q) q j
      go q j a β n (yes e) =
          let w : word b (wipe b m p) q j ≡ 0 = rw e (wipe-same wide N m p j en.sized l β) in
          w ∙ sym (ap (λ (r : Role). role_word b f A (cell b A) r q j) (ap A.role e ∙ free))
      go q j a β n (no e) = wipe-other wide m p q j β e ∙ en.says q j a β n

  -- a page that was returned has no word but 0
  pub returned-zero : (x : First A o p) (j : ℕ) → j < W b → word b (return_page b true m o (addr b x.hop.vp)) p j ≡ 0
  returned-zero x j β =
      let h = x.hop in
      let hs = x.rest in
      let l : p < N = in_range wide N fl A wf p h hs x.is in
      let g : Good b A p (h ∷ hs) = rw x.is at (wf.good p) in
      let t : Fits b (is_hand (A.role p)) (cell b A) p (h ∷ hs) = rw x.is at (fits wide N fl A wf p) in
      let n : length hs < 9 = omega (arith, hop-depth wide A p h hs g.0, wf.depth h.part g.0.live) in
      let e : EncodesC b N f (walk b true 9 (wipe b m p) h.part h.vp) A (flag b true p (h ∷ hs) (cell b A)) = walked wide N fl f A wf p (is_hand (A.role p)) true 9 h hs (wipe b m p) (cell b A) n g t (wiped l) in
      rw (give_is b m o h.vp, entry-is wide N fl A wf f m en pt o h.vp lo (first_fits wide N fl f A wf o p lo x), first-page wide N fl f A wf o p x, ← x.part) (blank-word _ _ e l j β)

first_step : (A : Abs) (o q p : ℕ) (R : Role) → First A o q → First (set_role A p R) o q
first_step A o q p R x = record { hop = x.hop; rest = x.rest; is = x.is; part = x.part }

module _ {b : ℕ} (wide : 6 ≤ b) (N : ℕ) (fl : ℕ → Option ℕ) (f : List ℕ) (A : Abs) (wf : WF b N fl A) (m : List ℕ) (en : Encodes b N f m A)
    (o : ℕ) (lo : A.role o ≡ desc) (P : Kind → ℕ) (one : (k k' : Kind) → P k ≡ P k' → k ≡ k') where
  pub take-three : (v : Kind → ℕ) → ((k : Kind) → idx b (v k) < W b) → ((k : Kind) → Held A o (v k) (P k))
      → WF b N fl (set_three A P blank) × Encodes b N f (take_all b m o (addr b (v pt) ∷ addr b (v s1) ∷ addr b (v s2) ∷ [])) (set_three A P blank)
  take-three v β h =
      let t1 = take-one wide N fl f A wf m o (v pt) (P pt) en lo (β pt) (h pt) in
      let A1 = set_role A (P pt) blank in
      let l1 : A1.role o ≡ desc = role-keep A (P pt) blank desc o lo (λ e. differ (sym (h pt).in-hand ∙ e) (omega arith)) in
      let h1 = held-step A o (v s1) (P s1) (P pt) blank (λ e. pt-s1 (sym (one s1 pt e))) (h s1) in
      let t2 = take-one wide N fl f A1 t1.0 _ o (v s1) (P s1) t1.1 l1 (β s1) h1 in
      let A2 = set_role A1 (P s1) blank in
      let l2 : A2.role o ≡ desc = role-keep A1 (P s1) blank desc o l1 (λ e. differ (sym h1.in-hand ∙ e) (omega arith)) in
      let h2 = held-step A1 o (v s2) (P s2) (P s1) blank (λ e. s1-s2 (sym (one s2 s1 e))) (held-step A o (v s2) (P s2) (P pt) blank (λ e. pt-s2 (sym (one s2 pt e))) (h s2)) in
      take-one wide N fl f A2 t2.0 _ o (v s2) (P s2) t2.1 l2 (β s2) h2

  module _ (e : (k : Kind) → A.role (P k) ≡ blank) (x : (k : Kind) → First A o (P k)) where
    abbrev A2 : Abs
    A2 = set_role (set_role A (P pt) hand) (P s1) hand

    abbrev m2 : List ℕ
    m2 = return_page b true (return_page b true m o (addr b (x pt).hop.vp)) o (addr b (x s1).hop.vp)

    -- two of them given, the third still blank
    record Two : Type 0 where
      well : WF b N fl A2
      words : Encodes b N f m2 A2
      live : A2.role o ≡ desc
      last : A2.role (P s2) ≡ blank

    two : Two
    unfolding first_step
    two =
        let t1 = give_one wide N fl f A wf m o (P pt) en lo (e pt) (x pt) in
        let A1 = set_role A (P pt) hand in
        let l1 : A1.role o ≡ desc = role-keep A (P pt) hand desc o lo (λ y. differ (sym (e pt) ∙ y) (omega arith)) in
        let e1 : A1.role (P s1) ≡ blank = upd_other A.role (P pt) hand (P s1) (λ y. pt-s1 (sym (one s1 pt y))) ∙ e s1 in
        let t2 = give_one wide N fl f A1 t1.0 _ o (P s1) t1.1 l1 e1 (first_step A o (P s1) (P pt) hand (x s1)) in
        record {
          well = t2.0;
          words = t2.1;
          live = role-keep A1 (P s1) hand desc o l1 (λ y. differ (sym e1 ∙ y) (omega arith));
          last = upd_other A1.role (P s1) hand (P s2) (λ y. s1-s2 (sym (one s2 s1 y))) ∙ upd_other A.role (P pt) hand (P s2) (λ y. pt-s2 (sym (one s2 pt y))) ∙ e s2;
        }

    third : First A2 o (P s2)
    third = record { hop = (x s2).hop; rest = (x s2).rest; is = (x s2).is; part = (x s2).part }

    pub give_three : WF b N fl (set_three A P hand) × Encodes b N f (return_all b m o (addr b (x pt).hop.vp ∷ addr b (x s1).hop.vp ∷ addr b (x s2).hop.vp ∷ [])) (set_three A P hand)
    unfolding third
    give_three = give_one wide N fl f A2 two.well m2 o (P s2) two.words two.live two.last third

    -- the last has no word but 0
    pub third-zero : (j : ℕ) → j < W b → word b (return_all b m o (addr b (x pt).hop.vp ∷ addr b (x s1).hop.vp ∷ addr b (x s2).hop.vp ∷ [])) (P s2) j ≡ 0
    unfolding third
    third-zero j β = returned-zero wide N fl f A2 two.well m2 two.words o two.live (P s2) two.last third j β
