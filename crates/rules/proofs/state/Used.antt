-- The role and the chain of a page are those of any use of it, and a role tells how its page is used. Assumes an index width of 6 or more.
use mathlib.Core.Path.{◌≡◌, refl, sym, ap, ap₂, ◌∙◌, subst}
use mathlib.Core.List.{List, []}
use mathlib.Core.Option.{none, some}
use Prim.Native.Nat.{ℕ, zero, suc, ◌*◌, ◌/◌, ◌%◌, ◌≤◌, ◌<◌}
use native.Mathlib.Omega.{arith}
use native.Mathlib.Decide.{dec_lt}
use lib.ListN.{get_or}
use Rattle.memory.specs.Partition.{pages, list, threes}
use Rattle.memory.specs.Tree.{InTree}
use Rattle.memory.specs.Uses.{Way, five, listed, in_hand, five_pages, UsedBy, Use}
use Rattle.memory.specs.Sound.{Sound}
use Rattle.soundness.proofs.Whole.{used-inside}
use Rattle.rules.proofs.model.Base.{eqd, pick_yes, pick_no}
use Rattle.rules.proofs.model.Abs.{Kind, pt, s1, s2, Role, header, hand, blank, desc, root, lst, tab}
use Rattle.rules.proofs.model.Format.{kind_at}
use Rattle.rules.proofs.sound.Pages.{five_role}
use Rattle.rules.proofs.state.Tree.{room}
use Rattle.rules.proofs.state.State.{listed_page, three, way_role, way_hops, role_used, hops_used, root_page, use_in, use_of, role, chain}

module _ (b : ℕ) (m : List ℕ) where
  -- q is table x of d's three at index i: the page of pair no of its list
  pub record Listed (x : Kind) (d i q : ℕ) : Type 0 where
    pub depth : ℕ
    pub tree : InTree b m depth d
    pub no : ℕ
    pub few : no < 3 * threes b m d
    pub kind : x ≡ kind_at (no % 3)
    pub at : (three b m d (no / 3)).at ≡ i
    pub page : listed_page b m d no ≡ q

  -- what is known of page q if it has this role
  abbrev pub Means : Role → ℕ → Type 0
  Means header q = q ≡ 0
  Means hand q = Unit {0}
  Means blank q = ⊥
  Means desc q = (k : ℕ) × InTree b m k q
  Means (root x d) q = ((k : ℕ) × InTree b m k d) × (root_page b m x d ≡ q)
  Means (lst d) q = ((k : ℕ) × InTree b m k d) × (list b m d ≡ q)
  Means (tab x d i) q = Listed x d i q

  way_means : {k d : ℕ} → InTree b m k d → (w : Way) (q : ℕ) → UsedBy b m d w q → Means (way_role b m d w) q
  unfolding way_role
  way_means {k} t (five zero) q u = (k, subst (InTree b m k) u.1 t)
  way_means {k} t (five (suc zero)) q u = ((k, t), u.1)
  way_means {k} t (five (suc (suc zero))) q u = ((k, t), u.1)
  way_means {k} t (five (suc (suc (suc zero)))) q u = ((k, t), u.1)
  way_means {k} t (five (suc (suc (suc (suc zero))))) q u = ((k, t), u.1)
  way_means t (five (suc (suc (suc (suc (suc j)))))) q u = absurd (omega (arith, u.0))
  way_means {k} t (listed j) q u = record { depth = k; tree = t; no = j; few = u.0; kind = refl; at = refl; page = u.1 }
  way_means t (in_hand v) q u = tt

module _ {b : ℕ} (wide : 6 ≤ b) (m : List ℕ) (s : Sound b m) where
  -- ---- from the use to the role: two uses of a page are the same, so it does not matter which one the state took

  has_use : (p : ℕ) → 0 < p → p < pages b m → (u : Use b m p) × (use_of b m s p ≡ some u)
  unfolding use_of use_in
  has_use p l h = go (dec_lt 0 p) (dec_lt p (pages b m))
    where
      go : (x : Dec (0 < p)) (y : Dec (p < pages b m)) → (u : Use b m p) × (use_in b m s p x y ≡ some u)
      go (yes a) (yes c) = (s.uses.some p a c, refl)
      go (yes a) (no c) = absurd (c h)
      go (no a) c = absurd (a l)

  no_use : (p : ℕ) → ¬ ((0 < p) × (p < pages b m)) → use_of b m s p ≡ none
  unfolding use_of use_in
  no_use p n = go (dec_lt 0 p) (dec_lt p (pages b m))
    where
      go : (x : Dec (0 < p)) (y : Dec (p < pages b m)) → use_in b m s p x y ≡ none
      go (yes a) (yes c) = absurd (n (a, c))
      go (yes a) (no c) = refl
      go (no a) c = refl

  pub used : {k d : ℕ} → InTree b m k d → (w : Way) (p : ℕ) → UsedBy b m d w p → (role b m s p ≡ way_role b m d w) × (chain b m s p ≡ way_hops b m d w)
  unfolding role chain role_used hops_used
  used {k} {d} t w p u =
      let (l, h) = used-inside b m s (room wide) t w p u in
      let (v, f) = has_use p l h in
      let e = s.uses.one p l h v (record { depth = k; part = d; way = w; tree = t; used = u }) in (
        pick_no (eqd p 0) header _ (λ z. omega arith) ∙ ap (role_used b m) f ∙ ap₂ (way_role b m) e.0 e.1,
        ap (hops_used b m) f ∙ ap₂ (way_hops b m) e.0 e.1,
      )

  pub role-head : role b m s 0 ≡ header
  unfolding role
  role-head = pick_yes (eqd 0 0) header _ refl

  pub chain_head : chain b m s 0 ≡ []
  unfolding chain hops_used
  chain_head = ap (hops_used b m) (no_use 0 (λ x. omega (arith, x.0)))

  pub past : (p : ℕ) → pages b m ≤ p → (role b m s p ≡ hand) × (chain b m s p ≡ [])
  unfolding role chain role_used hops_used
  past p l =
      let n = no_use p (λ x. omega (arith, x.1)) in
      (pick_no (eqd p 0) header _ (λ z. omega (arith, s.header.least)) ∙ ap (role_used b m) n, ap (hops_used b m) n)

  -- ---- the pages of a partition

  pub live : {k d : ℕ} → InTree b m k d → role b m s d ≡ desc
  unfolding way_role
  live {k} {d} t = (used t (five 0) d (omega arith, refl)).0

  pub five-used : {k d : ℕ} → InTree b m k d → (j : ℕ) → j < 5
      → (role b m s (get_or (five_pages b m d) j 0) ≡ five_role d j) × (chain b m s (get_or (five_pages b m d) j 0) ≡ way_hops b m d (five j))
  unfolding way_role
  five-used {k} {d} t j l = used t (five j) (get_or (five_pages b m d) j 0) (l, refl)

  pub root-used : {k d : ℕ} → InTree b m k d → (x : Kind) → role b m s (root_page b m x d) ≡ root x d
  root-used t pt = (five-used t 1 (omega arith)).0
  root-used t s1 = (five-used t 2 (omega arith)).0
  root-used t s2 = (five-used t 3 (omega arith)).0

  pub list-used : {k d : ℕ} → InTree b m k d → role b m s (list b m d) ≡ lst d
  list-used t = (five-used t 4 (omega arith)).0

  pub listed-used : {k d : ℕ} → InTree b m k d → (j : ℕ) → j < 3 * threes b m d
      → (role b m s (listed_page b m d j) ≡ tab (kind_at (j % 3)) d (three b m d (j / 3)).at)
      × (chain b m s (listed_page b m d j) ≡ way_hops b m d (listed j))
  unfolding way_role
  listed-used t j l = used t (listed j) _ (l, refl)

  -- ---- from the role to the use

  -- a page is page 0, past the end, or used
  pub data View (p : ℕ) : Type 0 where
    v_head : p ≡ 0 → View p
    v_past : pages b m ≤ p → View p
    v_used : (k d : ℕ) (w : Way) → InTree b m k d → UsedBy b m d w p → role b m s p ≡ way_role b m d w → chain b m s p ≡ way_hops b m d w → View p

  pub view : (p : ℕ) → View p
  view p = go (dec_lt 0 p) (dec_lt p (pages b m))
    where
      go : Dec (0 < p) → Dec (p < pages b m) → View p
      go (yes a) (yes c) =
          let u = s.uses.some p a c in
          let r = used u.tree u.way p u.used in
          v_used u.depth u.part u.way u.tree u.used r.0 r.1
      go (yes a) (no c) = v_past (omega arith)
      go (no a) c = v_head (omega arith)

  pub role_means : (q : ℕ) (r : Role) → role b m s q ≡ r → Means b m r q
  role_means q r e = subst (λ (x : Role). Means b m x q) e (go (view q))
    where
      go : View q → Means b m (role b m s q) q
      go (v_head z) = subst (λ (x : Role). Means b m x q) (sym (ap (role b m s) z ∙ role-head)) z
      go (v_past l) = subst (λ (x : Role). Means b m x q) (sym (past q l).0) tt
      go (v_used k d w t u f g) = subst (λ (x : Role). Means b m x q) (sym f) (way_means b m t w q u)

  pub live-tree : (d : ℕ) → role b m s d ≡ desc → (k : ℕ) × InTree b m k d
  live-tree d e = role_means d desc e

  pub root-of : (x : Kind) (d q : ℕ) → role b m s q ≡ root x d → (role b m s d ≡ desc) × (root_page b m x d ≡ q)
  root-of x d q e = let ((k, t), f) = role_means q (root x d) e in (live t, f)

  pub list_of : (d q : ℕ) → role b m s q ≡ lst d → (role b m s d ≡ desc) × (list b m d ≡ q)
  list_of d q e = let ((k, t), f) = role_means q (lst d) e in (live t, f)

  pub table_of : (x : Kind) (d i q : ℕ) → role b m s q ≡ tab x d i → Listed b m x d i q
  table_of x d i q e = role_means q (tab x d i) e
