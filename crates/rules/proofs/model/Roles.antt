-- A page passes from hand to blank (taken) or back: well-formedness stays.
use mathlib.Core.Path.{◌≡◌, refl, sym, ap, ◌∙◌, subst}
use mathlib.Core.Logic.{◌≢◌}
use mathlib.Core.Bool.{Bool, true, false}
use mathlib.Core.Option.{Option}
use mathlib.Core.List.{List, [], ◌∷◌}
use Prim.Native.Nat.{ℕ, ◌≤◌, ◌<◌}
use native.Mathlib.Omega.{arith}
use lib.ListN.{length}
use Rattle.rules.proofs.model.Base.{eqd, upd, upd_same, upd_other}
use Rattle.rules.proofs.model.Abs.{Kind, Role, header, hand, blank, desc, root, lst, tab, Hop, Three, Abs, parts, GoodHop, Owner, Tabs, WF}
use Rattle.rules.proofs.model.Facts.{good_map, in_range, nil_cons}

-- neither header nor in use by a partition
abbrev pub is_free : Role → Bool
is_free header = false
is_free hand = true
is_free blank = true
is_free desc = false
is_free (root k d) = false
is_free (lst d) = false
is_free (tab k d i) = false

pub true-false : {P : Type 0} {β : Bool} → β ≡ true → β ≡ false → P
true-false a c = let z : ◌≡◌ {A = ℕ} 0 1 = cc in absurd (omega arith)

pub owner-free : (r : Role) (q d : ℕ) → is_free r ≡ true → Owner r q d → ⊥
owner-free header q d e o = o
owner-free hand q d e o = o
owner-free blank q d e o = o
owner-free desc q d e o = true-false e refl
owner-free (root k x) q d e o = true-false e refl
owner-free (lst x) q d e o = true-false e refl
owner-free (tab k x i) q d e o = true-false e refl

abbrev pub set_role : Abs → ℕ → Role → Abs
set_role A p R = record {
  role = upd A.role p R;
  chain = A.chain;
  maps = A.maps;
  rootp = A.rootp;
  lstp = A.lstp;
  threes = A.threes;
  vcli = A.vcli;
  cur = A.cur;
}

module _ {b : ℕ} (wide : 6 ≤ b) where
  pub tabs_map : (f g : ℕ → Role) (d : ℕ) (ts : List Three) → ((k : Kind) (i q : ℕ) → f q ≡ tab k d i → g q ≡ tab k d i) → Tabs b f d ts → Tabs b g d ts
  tabs_map f g d [] h t = tt
  tabs_map f g d (x ∷ xs) h t = (record { fits = t.0.fits; pages = λ k. h k x.at (x.page k) (t.0.pages k); once = t.0.once }, tabs_map f g d xs h t.1)

  module _ (N : ℕ) (fl : ℕ → Option ℕ) (A : Abs) (wf : WF b N fl A) (p : ℕ) (R : Role) (free : is_free (A.role p) ≡ true) (Free : is_free R ≡ true)
      (hop : Hop) (rest : List Hop) (is : A.chain p ≡ hop ∷ rest) where
    abbrev B : Abs
    B = set_role A p R

    -- a role in use is kept, and none is new
    pub up : (q : ℕ) (r : Role) → is_free r ≡ false → A.role q ≡ r → B.role q ≡ r
    up q r n e = upd_other A.role p R q (λ x. true-false free (rw x at (ap is_free e ∙ n))) ∙ e

    pub down : (q : ℕ) (r : Role) → is_free r ≡ false → B.role q ≡ r → A.role q ≡ r
    down q r n e = go (eqd q p)
      where
        go : Dec (q ≡ p) → A.role q ≡ r
        go (yes x) = true-false Free (ap is_free (sym (upd_same A.role p R) ∙ (rw x at e)) ∙ n)
        go (no x) = sym (upd_other A.role p R q x) ∙ e

    role-hop : (q : ℕ) (h : Hop) (hs : List Hop) → GoodHop b A q h hs → GoodHop b B q h hs
    role-hop q h hs g = record { live = up h.part desc refl g.live; some_v = g.some_v; small = g.small; mapped = g.mapped; above = g.above; three = g.three; rights = g.rights }

    role-kernel : (q d : ℕ) → Owner (B.role q) q d → parts (A.chain q) ≡ parts (A.chain d)
    role-kernel q d o = go (eqd q p)
      where
        go : Dec (q ≡ p) → parts (A.chain q) ≡ parts (A.chain d)
        go (yes x) = absurd (owner-free R q d Free (subst (λ (r : Role). Owner r q d) (ap B.role x ∙ upd_same A.role p R) o))
        go (no x) = wf.kernel q d (subst (λ (r : Role). Owner r q d) (upd_other A.role p R q x) o)

    role-held : (q : ℕ) → B.role q ≡ hand → q < N → A.chain q ≢ []
    role-held q e l c = go (eqd q p)
      where
        go : Dec (q ≡ p) → ⊥
        go (yes x) = nil_cons (sym c ∙ (ap A.chain x ∙ is))
        go (no x) = wf.held q (sym (upd_other A.role p R q x) ∙ e) l c

    pub role-wf : WF b N fl B
    role-wf = record {
      beyond = λ q l. (upd_other A.role p R q (λ x. omega (arith, in_range wide N fl A wf p hop rest is)) ∙ (wf.beyond q l).0, (wf.beyond q l).1);
      head_role = up 0 header refl wf.head_role;
      head_only = λ q e. wf.head_only q (down q header refl e);
      head_chain = wf.head_chain;
      root_live = up 1 desc refl wf.root_live;
      root_top = wf.root_top;
      root_only = λ d l e. wf.root_only d (down d desc refl l) e;
      good = λ q. good_map wide A B q (length (A.chain q)) (A.chain q) (omega arith) (λ h hs l g. role-hop q h hs g) (wf.good q);
      seen = wf.seen;
      root_role = λ k d l. up (A.rootp k d) (root k d) refl (wf.root_role k d (down d desc refl l));
      root_inv = λ k d q e. let x = wf.root_inv k d q (down q (root k d) refl e) in (up d desc refl x.0, x.1);
      lst_role = λ d l. up (A.lstp d) (lst d) refl (wf.lst_role d (down d desc refl l));
      lst_inv = λ d q e. let x = wf.lst_inv d q (down q (lst d) refl e) in (up d desc refl x.0, x.1);
      tabs = λ d l. tabs_map A.role B.role d (A.threes d) (λ k i q e. up q (tab k d i) refl e) (wf.tabs d (down d desc refl l));
      tab_inv = λ k d i q e. let x = wf.tab_inv k d i q (down q (tab k d i) refl e) in (up d desc refl x.0, x.1, x.2, x.3);
      kernel = role-kernel;
      held = role-held;
      top_maps = wf.top_maps;
      depth = λ d l. wf.depth d (down d desc refl l);
      ten = λ d l. wf.ten d (down d desc refl l);
      cur_live = up A.cur desc refl wf.cur_live;
    }
