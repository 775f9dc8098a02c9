-- create_partition leaves a three of another partition where it stands.
use mathlib.Core.Path.{◌≡◌, refl, sym, ap, ◌∙◌, subst}
use mathlib.Core.Logic.{◌≢◌}
use mathlib.Core.Bool.{false}
use mathlib.Core.Option.{Option}
use mathlib.Core.List.{List, [], ◌∷◌, ◌++◌}
use Prim.Native.Nat.{ℕ, ◌≤◌, ◌<◌}
use native.Mathlib.Omega.{arith}
use lib.ListN.{length}
use Rattle.memory.specs.Geometry
use Rattle.memory.specs.Words as Mem
use Rattle.memory.specs.Partition
use Rattle.rules.specs.Call.{create_partition}
use Rattle.rules.specs.Conditions.{bad_page, not_in_hand}
use Rattle.rules.specs.Moves.{take_page, take_all, pairs}
use Rattle.rules.specs.Refusals.{refusals, refusal}
use Rattle.rules.specs.Effects.{create, effect}
use Rattle.rules.proofs.model.Base.{upd, upd_other}
use Rattle.rules.proofs.model.Words.{W, addr, put, idx, page_of, acc_of, put-sized, word-put-other, put_l-sized, put_l-other, twelve-lt, sixty_one}
use Rattle.rules.proofs.model.Abs.{pt, s1, Role, header, hand, blank, desc, root, lst, tab, Abs, WF, Cells, Encodes, EncodesC, is_hand, cell, role_word, head_list, desc_list}
use Rattle.rules.proofs.model.Facts.{differ, not-hand}
use Rattle.rules.proofs.model.Read.{root_page, entry_at, put_at, entry-is}
use Rattle.rules.proofs.model.Take.{Held, held-step, held_one, held-page, take-one, view-held}
use Rattle.rules.proofs.model.Inv.{Inv, named, live}
use Rattle.rules.proofs.model.Names.{PageAddress, good-page}
use Rattle.rules.proofs.Rows.{passed}
use Rattle.rules.proofs.steps.Checks.{Each, none_of, Distinct, not-twice, in-hand}
use Rattle.rules.proofs.steps.CollectEffect.{fill_is}
use Rattle.rules.proofs.steps.ThreeCarry.{loose-put, stay}
use Rattle.rules.specs.SameChain.{ThreeAt}

-- the state with other roles
abbrev re_role : Abs → (ℕ → Role) → Abs
re_role A r = record { role = r; chain = A.chain; maps = A.maps; rootp = A.rootp; lstp = A.lstp; threes = A.threes; vcli = A.vcli; cur = A.cur }

-- roles that are not hand are us in A
abbrev Only : Abs → (ℕ → Role) → Type 0
Only A r = (q : ℕ) → is_hand (A.role q) ≡ false → r q ≡ A.role q

module _ {b : ℕ} (wide : 6 ≤ b) (N : ℕ) (fl : ℕ → Option ℕ) (f : List ℕ) (A : Abs) (o : ℕ) where
  -- a is the address of a page in o's hand
  pub record In (P : ℕ → ℕ) (r : ℕ → Role) (a : ℕ) : Type 0 where
    pub is : addr b (page_of b a) ≡ a
    pub fits : idx b (page_of b a) < W b
    pub held : Held (re_role A r) o (page_of b a) (P a)

  pub record Taken (m : List ℕ) : Type 0 where
    pub roles : ℕ → Role
    pub words : Encodes b N f m (re_role A roles)
    pub only : Only A roles

  others : (P : ℕ → ℕ) (r : ℕ → Role) (wr : WF b N fl (re_role A r)) (a : ℕ) → In P r a → (us : List ℕ) → Each (λ y. a ≢ y) us → Each (In P r) us → Each (In P (upd r (P a) blank)) us
  others P r wr a h [] n g = tt
  others P r wr a h (y ∷ ys) n g = (
    record { is = g.0.is; fits = g.0.fits; held = held-step (re_role A r) o (page_of b y) (P y) (P a) blank apart g.0.held },
    others P r wr a h ys n.1 g.1,
  )
    where
      apart : P y ≢ P a
      apart e = n.0 (sym h.is ∙ ap (addr b) (held_one wide N fl f (re_role A r) wr o (page_of b a) (page_of b y) (P a) h.held (rw e at g.0.held)) ∙ g.0.is)

  -- pages taken one after the other
  take_all_lem : (P : ℕ → ℕ) (us : List ℕ) (r : ℕ → Role) (m : List ℕ) → WF b N fl (re_role A r) → Encodes b N f m (re_role A r) → r o ≡ desc → Only A r
      → Each (In P r) us → Distinct us → Taken (take_all b m o us)
  take_all_lem P [] r m wr en lo k g n = record { roles = r; words = en; only = k }
  take_all_lem P (a ∷ us) r m wr en lo k g n =
      let t = take-one wide N fl f (re_role A r) wr m o (page_of b a) (P a) en lo g.0.fits g.0.held in
      let r' : ℕ → Role = upd r (P a) blank in
      let e : Encodes b N f (take_page b m o a) (re_role A r') = subst (λ (z : ℕ). Encodes b N f (take_page b m o z) (re_role A r')) g.0.is t.1 in
      let lo' : r' o ≡ desc = upd_other r (P a) blank o (λ y. differ (sym g.0.held.in-hand ∙ sym (ap r y) ∙ lo) (omega arith)) ∙ lo in
      let k' : Only A r' = λ q h. upd_other r (P a) blank q (λ y. not-hand (ap r y ∙ g.0.held.in-hand) (ap is_hand (k q h) ∙ h)) ∙ k q h in
      take_all_lem P us r' (take_page b m o a) t.0 e lo' k' (others P r wr a g.0 us n.0 g.1) n.1

  role_same : (r : ℕ → Role) (C : Cells) (R : Role) (q j : ℕ) → role_word b f (re_role A r) C R q j ≡ role_word b f A C R q j
  unfolding role_word head_list desc_list
  role_same r C header q j = refl
  role_same r C hand q j = refl
  role_same r C blank q j = refl
  role_same r C desc q j = refl
  role_same r C (root k d) q j = refl
  role_same r C (lst d) q j = refl
  role_same r C (tab k d i) q j = refl

  -- the taken pages may hold anything
  loosen : (m : List ℕ) (t : Taken m) → EncodesC b N f m A (cell b (re_role A t.roles))
  loosen m t = record {
    sized = t.words.sized;
    says = λ q j l β h. t.words.says q j l β (ap is_hand (t.only q h) ∙ h)
        ∙ ap (λ (R : Role). role_word b f (re_role A t.roles) (cell b (re_role A t.roles)) R q j) (t.only q h)
        ∙ role_same t.roles (cell b (re_role A t.roles)) (A.role q) q j;
  }

  -- words of a page in hand
  hand-put : (m : List ℕ) (C : Cells) (p j y : ℕ) → j < W b → A.role p ≡ hand → EncodesC b N f m A C → EncodesC b N f (put b m p j y) A C
  hand-put m C p j y β e en = record {
    sized = put-sized wide N m p j y en.sized;
    says = λ q k l c n. word-put-other wide m p j y q k β c (λ z. not-hand e (rw z.0 at n)) ∙ en.says q k l c n;
  }

  hand-fill : (m : List ℕ) (C : Cells) (p : ℕ) (ws : List ℕ) → length ws ≤ W b → A.role p ≡ hand → EncodesC b N f m A C → EncodesC b N f (Mem.fill b m p ws) A C
  hand-fill m C p ws β e en =
      subst (λ (z : List ℕ). EncodesC b N f z A C) (sym (fill_is b m p ws))
      (record {
        sized = put_l-sized wide N m p 0 ws en.sized;
        says = λ q k l c n. put_l-other wide m p 0 ws q k (omega arith) c (λ z. not-hand e (rw z at n)) ∙ en.says q k l c n;
      })

module _ {b : ℕ} (wide : 6 ≤ b) (m : List ℕ) (i : Inv b m) where
  open named b i use {N, fl, f, A}

  abbrev o : ℕ
  o = Partition.current b m

  -- the page that the caller has at a
  abbrev P : ℕ → ℕ
  P a = page_of b (entry_at b m pt o (page_of b a))

  abbrev Hand : ℕ → Type 0
  Hand = In wide N fl f A o P A.role

  in_caller : (a : ℕ) → bad_page b a ≡ false → not_in_hand b m a ≡ false → Hand a
  in_caller a g h =
      let γ : PageAddress b a = good-page b a g in
      let w = in-hand b m o a h in
      let e : entry_at b m pt o (page_of b a) ≡ cell b A pt o (page_of b a) = entry-is wide N fl A i.wf f m i.words pt o (page_of b a) (live wide m i) γ.fits in
      let r = view-held wide N fl f A i.wf o (page_of b a) (sym (ap acc_of e) ∙ w.0) (sym (entry-is wide N fl A i.wf f m i.words s1 o (page_of b a) (live wide m i) γ.fits) ∙ w.1) in
      let q : P a ≡ r.0 = ap (page_of b) e ∙ held-page wide N fl f A i.wf o (page_of b a) r.0 r.1 in
      record { is = γ.is; fits = γ.fits; held = subst (Held A o (page_of b a)) (sym q) r.1 }

  all_in : (us : List ℕ) → Each (λ a. bad_page b a ≡ false) us → Each (λ a. not_in_hand b m a ≡ false) us → Each Hand us
  all_in [] g h = tt
  all_in (a ∷ us) g h = (in_caller a g.0 h.0, all_in us g.1 h.1)

  pub stay-create : (d x : ℕ) (l : A.role d ≡ desc) {v₁ v₂ v₃ : ℕ} (th : ThreeAt b m d x v₁ v₂ v₃) (p q s t u : ℕ) → refusal b m (create_partition p q s t u) ≡ 0
      → ThreeAt b (effect b m (create_partition p q s t u)) d x v₁ v₂ v₃
  unfolding refusals effect create put_at root_page page_of entry_at put
  stay-create d x l th p q s t u e =
      let five = p ∷ q ∷ s ∷ t ∷ u ∷ [] in
      let y = passed (refusals b m (create_partition p q s t u)) e in
      let g : Each Hand five = all_in five (none_of (bad_page b) five y.1.0) (none_of (not_in_hand b m) five y.1.1.1.0) in
      let k = take_all_lem wide N fl f A o P five A.role m i.wf i.words (live wide m i) (λ z h. refl) g (not-twice five y.1.1.0) in
      let C = cell b (re_role A k.roles) in
      let e₁ = loosen wide N fl f A o _ k in
      let e₂ = hand-fill wide N fl f A o _ C (P p) (pairs b m o five ++ (0 ∷ Geometry.address b o ∷ [])) (omega (arith, sixty_one wide)) g.0.held.in-hand e₁ in
      let e₃ = hand-put wide N fl f A o _ C (P u) 0 1 (twelve-lt wide 0 (omega arith)) g.1.1.1.1.0.held.in-hand e₂ in
      stay wide m i d x l th _ (loose-put wide m i _ s1 o (page_of b p) 1 (live wide m i) g.0.fits (C, e₃))
