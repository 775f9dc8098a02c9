-- Where a page is used: in hand, as one of a partition's five, or in its list. A child's kernel pages are mapped in its parent.
use mathlib.Core.Path.{◌≡◌, refl, sym, ap, ◌∙◌, subst}
use mathlib.Core.Logic.{◌≢◌}
use mathlib.Core.Option.{Option, none, some}
use mathlib.Core.List.{List, [], ◌∷◌}
use Prim.Native.Nat.{ℕ, ◌+◌, ◌*◌, ◌≤◌, ◌<◌}
use native.Mathlib.Omega.{arith}
use lib.ListN.{length}
use Rattle.memory.specs.Geometry.{threes_for}
use Rattle.memory.specs.Partition.{lent}
use Rattle.memory.specs.Tree.{Child}
use Rattle.rules.proofs.model.Words.{addr, addr_nz, addr-not-one}
use Rattle.rules.proofs.model.Abs.{Kind, pt, s1, s2, Role, header, hand, blank, desc, root, lst, tab, Hop, Three, Abs, parts, head_v, Seen, Owner, lent_word}
use Rattle.rules.proofs.model.Facts.{nil_cons, owner-live, Top, top}
use Rattle.rules.proofs.model.Read.{lent_nz}
use Rattle.rules.proofs.model.Format.{kind_no, kind-lt, flat0}
use Rattle.rules.proofs.model.Inv.{Inv}
use Rattle.rules.proofs.model.Listing.{page_at, page-no, place_of}
use Rattle.rules.proofs.sound.Words.{Mapping, mapping-first}
use Rattle.rules.proofs.sound.Tree.{IsChild, child-parts, child-at}
use Rattle.rules.proofs.sound.Pages.{five_page}

pub data Place (A : Abs) (p : ℕ) : Type 0 where
  in-hand : A.role p ≡ hand → Place A p
  in_five : (d j : ℕ) → A.role d ≡ desc → j < 5 → five_page A d j ≡ p → Place A p
  in_list : (d j : ℕ) → A.role d ≡ desc → j < 3 * length (A.threes d) → page_at (A.threes d) j ≡ p → Place A p

pub first_part : {x y : ℕ} {xs ys : List ℕ} → x ∷ xs ≡ y ∷ ys → x ≡ y
first_part e = cc

module _ {b : ℕ} (wide : 6 ≤ b) (m : List ℕ) (i : Inv b m) where
  abbrev A : Abs
  A = i.state

  pub place : (p : ℕ) → p ≢ 0 → Place A p
  place p n = go (A.role p) refl
    where
      of-root : (k : Kind) (d : ℕ) → A.role d ≡ desc → A.rootp k d ≡ p → Place A p
      of-root pt d l e = in_five d 1 l (omega arith) e
      of-root s1 d l e = in_five d 2 l (omega arith) e
      of-root s2 d l e = in_five d 3 l (omega arith) e

      go : (r : Role) → A.role p ≡ r → Place A p
      go header e = absurd (n (i.wf.head_only p e))
      go hand e = in-hand e
      go blank e = absurd (i.full p e)
      go desc e = in_five p 0 e (omega arith) refl
      go (root k d) e = let x = i.wf.root_inv k d p e in of-root k d x.0 x.1
      go (lst d) e = let x = i.wf.lst_inv d p e in in_five d 4 x.0 (omega arith) x.1
      go (tab k d y) e =
          let x = i.wf.tab_inv k d y p e in
          let t = place_of y (A.threes d) x.1 x.2 in
          in_list d (3 * t.0 + kind_no k) x.0 (omega (arith, t.1, kind-lt k)) (page-no (A.threes d) t.0 k ∙ ap (λ (z : Three). z.page k) t.2 ∙ x.3)

  -- where the shadow 1 word is 0 or 1 the mapping is the first of its page's chain
  pub not-lent : (d v p : ℕ) (s : Seen) → Mapping b m A d v p s → lent b m d v ≤ 1 → Top d (A.chain p) s
  unfolding lent_word
  not-lent d v p s y low = top A d (A.chain p) s y.finds (go s.below refl)
    where
      go : (o : Option ℕ) → s.below ≡ o → s.below ≡ none
      go none e = e
      go (some c) e =
          let w : lent b m d v ≡ addr b (head_v (A.chain c)) = y.lent ∙ ap (lent_word b A (A.role p)) e in
          let a : addr b (head_v (A.chain c)) ≢ 0 = addr_nz wide (head_v (A.chain c)) (lent_nz wide i.N (flat0 i.N (threes_for b i.N)) A i.wf p d c s y.finds e) in
          let z : addr b (head_v (A.chain c)) ≢ 1 = addr-not-one wide (head_v (A.chain c)) in
          absurd (omega arith)

  -- a kernel page of a child of d is mapped in d, and not lent
  pub owned-mapping : (d u c q : ℕ) → IsChild A d u c → Owner (A.role q) q c → (s : Seen) × Mapping b m A d (addr b (head_v (A.chain q))) q s × (s.below ≡ none)
  owned-mapping d u c q k o = go (A.chain q) refl
    where
      go : (hs : List Hop) → A.chain q ≡ hs → (s : Seen) × Mapping b m A d (addr b (head_v hs)) q s × (s.below ≡ none)
      go [] e = nil_cons (sym (ap parts e) ∙ i.wf.kernel q c o ∙ child-parts wide m i d u c k)
      go (h ∷ hs) e =
          let x : h.part ≡ d = first_part (sym (ap parts e) ∙ i.wf.kernel q c o ∙ child-parts wide m i d u c k) in
          let s : Seen = record { vp = h.vp; rt = h.rt; up = head_v hs; below = none } in
          (s, subst (λ (y : ℕ). Mapping b m A y (addr b h.vp) q s) x (mapping-first wide m i q h hs e), refl)

  -- where a kernel page is mapped first, its partition is a child
  pub owner-child : (c q : ℕ) (h : Hop) (hs : List Hop) → A.chain q ≡ h ∷ hs → Owner (A.role q) q c → (v : ℕ) × Child b m h.part v c
  owner-child c q h hs e o = go (A.chain c) refl
    where
      go : (us : List Hop) → A.chain c ≡ us → (v : ℕ) × Child b m h.part v c
      go [] f = nil_cons (sym (ap parts f) ∙ sym (i.wf.kernel q c o) ∙ ap parts e)
      go (u ∷ us) f =
          let x : u.part ≡ h.part = first_part (sym (ap parts f) ∙ sym (i.wf.kernel q c o) ∙ ap parts e) in
          (addr b u.vp, subst (λ (y : ℕ). Child b m y (addr b u.vp) c) x (child-at wide m i c u us (owner-live wide i.N (flat0 i.N (threes_for b i.N)) A i.wf q c o) f))
