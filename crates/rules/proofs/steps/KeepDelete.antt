-- delete_partition keeps the invariant.
use mathlib.Core.Path.{◌≡◌, refl, sym, ap, ◌∙◌, subst}
use mathlib.Core.Logic.{◌≢◌, inl, inr}
use mathlib.Core.Bool.{Bool, true, false, ◌&&◌, false≢true}
use mathlib.Core.Option.{Option, some}
use mathlib.Core.List.{List, [], ◌∷◌}
use Prim.Native.Nat.{ℕ, ◌+◌, ◌≤◌, ◌<◌}
use native.Mathlib.Omega.{arith}
use Rattle.memory.specs.Geometry.{threes_for}
use Rattle.memory.specs.Partition.{current}
use Rattle.memory.proofs.Geometry.{page-address}
use Rattle.rules.specs.Call.{delete_partition}
use Rattle.rules.specs.Moves.{return_page, return_all}
use Rattle.rules.specs.Refusals.{refusals, refusal}
use Rattle.rules.specs.Effects.{release_all, delete, effect}
use Rattle.rules.proofs.model.Base.{eqd, upd, upd_same, pick_yes, pick_no}
use Rattle.rules.proofs.model.Words.{W, addr, word, idx, words, page_of, below-idx}
use Rattle.rules.proofs.model.Abs.{Kind, pt, s1, s2, Role, header, hand, blank, desc, root, lst, tab, Three}
use Rattle.rules.proofs.model.Abs.{three_at, Abs, head_v, Owner, Tabs, WF, Encodes, Cells, is_hand, cell}
use Rattle.rules.proofs.model.Facts.{differ, none-some, some_inj}
use Rattle.rules.proofs.model.Read.{root_page, entry_at, put_at, entry-is, child-view, maps-three, three-is}
use Rattle.rules.proofs.steps.Delete.{del_a, DelPre, Fate, fate, through, owned, stays, Stays, del_role, fate_role, gone, del_wf}
use Rattle.rules.proofs.steps.DelWords.{choose, none_yet, mix, begin, finish}
use Rattle.rules.proofs.steps.DelSteps.{Wiped, Midway, cleared, returned}
use Rattle.rules.proofs.steps.DelLent.{Released, all-released, at_place}
use Rattle.rules.proofs.steps.DelKernel.{places, table_pages, kernel-is, In, Owned, own_back, Returned, stay, all-returned}
use Rattle.rules.proofs.model.Format.{flat0}
use Rattle.rules.proofs.model.Names.{good-page}
use Rattle.rules.proofs.model.Inv.{fixed, Inv, moved, live, cur-is}
use Rattle.rules.proofs.Rows.{passed}
use Rattle.rules.proofs.steps.Checks.{a-child}

module _ {b : ℕ} (wide : 6 ≤ b) (N : ℕ) (fl : ℕ → Option ℕ) (f m : List ℕ) (A : Abs) (wf : WF b N fl A) (en : Encodes b N f m A) (o D : ℕ) (pre : DelPre A o D) where
  abbrev c : ℕ
  c = addr b (head_v (A.chain D))

  -- D's kernel pages, but for its descriptor
  abbrev others : List ℕ
  others = A.rootp pt D ∷ A.rootp s1 D ∷ A.rootp s2 D ∷ A.lstp D ∷ table_pages (A.threes D)

  own_as : (q : ℕ) (r : Role) → A.role q ≡ r → Owner r q D → Owner (A.role q) q D
  own_as q r e w = subst (λ (z : Role). Owner z q D) (sym e) w

  tables-owned : (ts : List Three) → Tabs b A.role D ts → Owned wide N fl f A wf o D pre (table_pages ts)
  tables-owned [] g = tt
  tables-owned (t ∷ ts) g =
      let w : (k : Kind) → Owner (A.role (t.page k)) (t.page k) D = λ k. own_as (t.page k) (tab k D t.at) (g.0.pages k) refl in
      (w pt, (w s1, (w s2, tables-owned ts g.1)))

  others-owned : Owned wide N fl f A wf o D pre others
  others-owned =
      let w : (k : Kind) → Owner (A.role (A.rootp k D)) (A.rootp k D) D = λ k. own_as (A.rootp k D) (root k D) (wf.root_role k D pre.child) refl in
      (w pt, (w s1, (w s2, (own_as (A.lstp D) (lst D) (wf.lst_role D pre.child) refl, tables-owned (A.threes D) (wf.tabs D pre.child)))))

  -- D has no other kernel page
  table_in : (i : ℕ) (k : Kind) (ts : List Three) (t : Three) → three_at i ts ≡ some t → In (t.page k) (table_pages ts)
  unfolding three_at
  table_in i k [] t e = none-some e
  table_in i k (x ∷ xs) t e = go (eqd i x.at) (table_in i k xs t)
    where
      here : (k : Kind) → x ≡ t → In (t.page k) (table_pages (x ∷ xs))
      here pt y = inl (ap (λ (z : Three). z.page pt) (sym y))
      here s1 y = inr (inl (ap (λ (z : Three). z.page s1) (sym y)))
      here s2 y = inr (inr (inl (ap (λ (z : Three). z.page s2) (sym y))))

      go : Dec (i ≡ x.at) → (three_at i xs ≡ some t → In (t.page k) (table_pages xs)) → In (t.page k) (table_pages (x ∷ xs))
      go (yes y) ih = here k (some_inj (sym (pick_yes (eqd i x.at) (some x) (three_at i xs) y) ∙ e))
      go (no n) ih = inr (inr (inr (ih (sym (pick_no (eqd i x.at) (some x) (three_at i xs) n) ∙ e))))

  owned_in : (p : ℕ) (r : Role) → A.role p ≡ r → Owner r p D → p ≢ D → In p others
  owned_in p header h w n = absurd w
  owned_in p hand h w n = absurd w
  owned_in p blank h w n = absurd w
  owned_in p desc h w n = absurd (n w)
  owned_in p (root pt d) h w n = inl (sym (rw w at (wf.root_inv pt d p h).1))
  owned_in p (root s1 d) h w n = inr (inl (sym (rw w at (wf.root_inv s1 d p h).1)))
  owned_in p (root s2 d) h w n = inr (inr (inl (sym (rw w at (wf.root_inv s2 d p h).1))))
  owned_in p (lst d) h w n = inr (inr (inr (inl (sym (rw w at (wf.lst_inv d p h).1)))))
  owned_in p (tab k d i) h w n =
      let x = wf.tab_inv k d i p h in
      inr (inr (inr (inr (subst (λ (z : ℕ). In z (table_pages (A.threes D))) x.3 (table_in i k (A.threes D) x.1 (subst (λ (z : ℕ). three_at i (A.threes z) ≡ some x.1) w x.2))))))

  -- ---- the whole

  released : Released wide N fl f A wf o D pre m (0 + words b) (release_all b (words b) 0 m o c)
  unfolding choose
  released = all-released wide N fl f A wf o D pre (words b) 0 m (omega arith) (record {
    pages = none_yet wide N fl f A wf o D pre;
    mid = record { tables = begin wide N fl f A wf o D pre m en; hands = λ q j r k. refl };
    lent = λ p e. absurd (false≢true e);
    all = λ p t e. absurd (omega arith);
  })

  abbrev Mix : (ℕ → Bool) → Cells
  Mix = mix wide N fl f A wf o D pre

  -- the descriptor's mark is cleared, then the page is returned
  abbrev m₁ : List ℕ
  m₁ = release_all b (words b) 0 m o c

  abbrev m₂ : List ℕ
  m₂ = return_page b true (put_at b m₁ s1 o (head_v (A.chain D)) 0) o c

  abbrev S₂ : ℕ → Bool
  S₂ = upd released.pages D true

  descriptor : Midway wide N fl f A wf o D pre m (Mix S₂) S₂ m₂
  descriptor =
      let x = own_back wide N fl f A wf o D pre D (own_as D desc pre.child refl) in
      subst (λ (v : ℕ). Midway wide N fl f A wf o D pre m (Mix S₂) S₂ (return_page b true (put_at b m₁ s1 o v 0) o (addr b v))) (sym (ap head_v x.is))
      (returned wide N fl f A wf o D pre D x.back released.pages m _ (ap is_hand pre.child)
      (cleared wide N fl f A wf o D pre D x.back released.pages m m₁ released.mid))

  rest : Returned wide N fl f A wf o D pre m S₂ others (return_all b m₂ o (places b A.chain others))
  rest = all-returned wide N fl f A wf o D pre others S₂ m₂ others-owned (upd_same released.pages D true) descriptor

  covers : (p : ℕ) → rest.pages p ≡ false → p < N → Stays A D p
  covers p e l = go (fate A D p)
    where
      no_true : rest.pages p ≡ true → Stays A D p
      no_true y = absurd (false≢true (sym e ∙ y))

      go : Fate A D p → Stays A D p
      go (stays a β) = record { clear = a; other = β }
      go (owned a w) = on (eqd p D)
        where
          on : Dec (p ≡ D) → Stays A D p
          on (yes y) = no_true (rest.before p (rw y (upd_same released.pages D true)))
          on (no n) = no_true (rest.all p (owned_in p (A.role p) refl w n))
      go (through t a) =
          let x = maps-three wide N fl A wf o _ p (at_place wide N fl f A wf o D pre p (t, a)) in
          let h = (three-is wide A.role o _ (A.threes o) x.0 (wf.tabs o pre.live) x.1).fits in
          no_true (rest.before p (stay wide N fl f A wf o D pre released.pages D p (released.all p (t, a) (omega (arith, below-idx wide _ h))) (eqd p D)))

  delete-is : page_of b (entry_at b m pt o (head_v (A.chain D))) ≡ D → delete b m o c ≡ return_all b m₂ o (places b A.chain others)
  unfolding delete words put_at root_page addr page_of entry_at
  delete-is e = rw (page-address b (head_v (A.chain D)), e, kernel-is wide N fl f m A wf en D pre.child) refl

  pub deleted : page_of b (entry_at b m pt o (head_v (A.chain D))) ≡ D → Encodes b N f (delete b m o c) (del_a A D)
  deleted e = rw (delete-is e) (finish wide N fl f A wf o D pre _ rest.pages covers rest.mid.tables)

  -- a page that comes back is wiped, or keeps its words
  pub deleted-words : page_of b (entry_at b m pt o (head_v (A.chain D))) ≡ D → (p j : ℕ) → ¬ (Stays A D p) → p < N → j < W b
      → word b (delete b m o c) p j ≡ choose (Wiped wide N fl f A wf o D pre p) 0 (word b m p j)
  deleted-words e p j n l k =
      rw (delete-is e) (rest.mid.hands p j (gone wide N fl A wf o D pre p n) k
      ∙ ap (λ (s : Bool). choose (s && Wiped wide N fl f A wf o D pre p) 0 (word b m p j)) (back (rest.pages p) refl))
    where
      back : (β : Bool) → rest.pages p ≡ β → rest.pages p ≡ true
      back true z = z
      back false z = absurd (n (covers p z l))

module _ {b : ℕ} (wide : 6 ≤ b) (m : List ℕ) (i : Inv b m) where
  abbrev fl : ℕ → Option ℕ
  fl = flat0 i.N (threes_for b i.N)

  full : (D p : ℕ) → del_role i.state D p ≢ blank
  unfolding del_role fate_role
  full D p = go (fate i.state D p)
    where
      go : (x : Fate i.state D p) → fate_role x (i.state.role p) ≢ blank
      go (through t h) z = differ z (omega arith)
      go (owned h w) z = differ z (omega arith)
      go (stays h n) z = i.full p z

  -- the child at virtual page v is D
  child-pre : (v D : ℕ) → idx b v < W b → entry_at b m s1 (current b m) v ≡ 1 → page_of b (entry_at b m pt (current b m) v) ≡ D
      → DelPre i.state (current b m) D × (head_v (i.state.chain D) ≡ v)
  child-pre v D l e d =
      let A = i.state in
      let read : (k : Kind) → entry_at b m k (current b m) v ≡ cell b A k (current b m) v
      = λ k. entry-is wide i.N fl A i.wf (fixed b i.N) m i.words k (current b m) v (live wide m i) l in
      let x = child-view wide i.N fl A i.wf (current b m) v (sym (read s1) ∙ e) in
      let y : x.0 ≡ D = sym x.2.page ∙ sym (ap (page_of b) (read pt)) ∙ d in
      let c : A.chain D ≡ x.2.hop ∷ x.2.rest = ap A.chain (sym y) ∙ x.2.is in
      let pre : DelPre A (current b m) D = record {
        child = ap A.role (sym y) ∙ x.1;
        hop = x.2.hop;
        rest = x.2.rest;
        is = c;
        mine = x.2.part;
        live = live wide m i;
        caller = sym (cur-is wide m i);
      } in
      (pre, ap head_v c ∙ x.2.vp)

  -- the child of a delete_partition that passes
  pub record Deleting (c : ℕ) : Type 0 where
    pub child : ℕ
    pub pre : DelPre i.state (current b m) child
    pub at : addr b (head_v (i.state.chain child)) ≡ c
    pub is : page_of b (entry_at b m pt (current b m) (head_v (i.state.chain child))) ≡ child

  pub deleting : (c : ℕ) → refusal b m (delete_partition c) ≡ 0 → Deleting c
  unfolding refusals
  deleting c e =
      let x = passed (refusals b m (delete_partition c)) e in
      let g = good-page b c x.1.0 in
      let (pre, u) = child-pre (page_of b c) _ g.fits (a-child b m c x.1.1.0) refl in
      record { child = _; pre = pre; at = ap (addr b) u ∙ g.is; is = ap (λ (w : ℕ). page_of b (entry_at b m pt (current b m) w)) u }

  pub keep-delete : (c : ℕ) → refusal b m (delete_partition c) ≡ 0 → Inv b (effect b m (delete_partition c))
  unfolding effect
  keep-delete c e =
      let x = deleting c e in
      let o = current b m in
      let f = fixed b i.N in
      let words : Encodes b i.N f (delete b m o c) (del_a i.state x.child)
      = subst (λ (w : ℕ). Encodes b i.N f (delete b m o w) (del_a i.state x.child)) x.at
      (deleted wide i.N fl f m i.state i.wf i.words o x.child x.pre x.is) in
      moved b i _ (del_a i.state x.child) (del_wf wide i.N fl i.state i.wf o x.child x.pre) (full x.child)
      (record { roots = i.root.roots; list = i.root.list; threes = i.root.threes }) i.flags words
