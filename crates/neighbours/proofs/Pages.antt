-- One memory: how deep the kernel pages of a partition and the pages that it maps are, and which of them a call may write. It places the pages that B sees
-- below the partitions above B. Assumes an index width of 6 or more.
use mathlib.Core.Path.{◌≡◌, refl, sym, ap, ◌∙◌, subst}
use mathlib.Core.List.{List, [], ◌∷◌}
use mathlib.Core.Logic.{◌≢◌}
use mathlib.Core.Option.{none, some}
use Prim.Native.Nat.{ℕ, suc, ◌+◌, ◌*◌, ◌≤◌, ◌<◌}
use native.Mathlib.Omega.{arith}
use lib.ListN.{length}
use Rattle.memory.specs.Geometry
use Rattle.memory.specs.Partition
use Rattle.memory.specs.Uses.{Way, listed, KernelWay, is_five, is_listed, UsedBy}
use Rattle.rules.proofs.model.Base.{eqd}
use Rattle.rules.proofs.model.Words.{W, word, addr, idx, page_of, page_of-zero, page_of-addr, sixty_one}
use Rattle.rules.proofs.model.Abs.{Kind, pt, s1, desc, tab, Hop, Three, Good, Owner, head_p, desc_list}
use Rattle.rules.proofs.model.Facts.{shorter, differ}
use Rattle.rules.proofs.model.Read.{table_at, table_page, entry_at}
use Rattle.rules.proofs.model.Format.{kind_no, kind-lt}
use Rattle.rules.proofs.model.Inv.{fixed, Inv, named}
use Rattle.rules.proofs.model.Listing.{page_at, page-no, place_of}
use Rattle.rules.proofs.sound.Words.{threes-is, descriptor-word}
use Rattle.rules.proofs.sound.Views.{sees}
use Rattle.rules.proofs.model.Walk.{hop-depth}
use Rattle.rules.proofs.sound.Pages.{five_page, five-owner, listed-owner, pairs-are}
use Rattle.rules.proofs.sound.Uses.{five-names, listed-page}
use Rattle.neighbours.proofs.Levels.{deep, owner-deep, Writable, lower, head, own, table-role}

-- ---- the way up

-- the partition above d, which is one less deep
pub data Up {b : ℕ} {m : List ℕ} (i : Inv b m) (d : ℕ) : Type 0 where
  top : Partition.parent b m d ≡ 0 → Up i d
  on : Partition.parent b m d ≢ 0 → i.state.role (Partition.parent b m d) ≡ desc → deep i d ≡ suc (deep i (Partition.parent b m d)) → Up i d

module _ {b : ℕ} (wide : 6 ≤ b) {m : List ℕ} (i : Inv b m) where
  open named b i use {N, fl, A}

  parent_is : (d : ℕ) → A.role d ≡ desc → Partition.parent b m d ≡ head_p (A.chain d)
  unfolding word page_of addr desc_list
  parent_is d l = ap (page_of b) (descriptor-word wide m i d 11 l (eleven (sixty_one wide))) ∙ page_of-addr wide (head_p (A.chain d))
    where
      eleven : 61 ≤ W b → 11 < Geometry.page_words b
      eleven h = unfold W in (omega arith)

  pub up : (d : ℕ) → A.role d ≡ desc → Up i d
  up d l = go (A.chain d) refl
    where
      go : (hs : List Hop) → A.chain d ≡ hs → Up i d
      go [] e = top (parent_is d l ∙ ap head_p e)
      go (h ∷ hs) e =
          let g : Good b A d (h ∷ hs) = rw e at (i.wf.good d) in
          let q : h.part ≡ Partition.parent b m d = sym (parent_is d l ∙ ap head_p e) in
          let z : h.part ≢ 0 = λ y. differ (sym i.wf.head_role ∙ ap A.role (sym y) ∙ g.0.live) (omega arith) in
          let deeper : deep i d ≡ suc (deep i h.part) = ap length e ∙ ap suc (sym (hop-depth wide A d h hs g.0)) in
          on (subst (λ (x : ℕ). x ≢ 0) q z) (ap A.role (sym q) ∙ g.0.live) (deeper ∙ ap (λ (x : ℕ). suc (deep i x)) q)

  -- ---- how deep

  -- a kernel page of d is as deep as d
  used-owner : (d : ℕ) → A.role d ≡ desc → (w : Way) → KernelWay w → (p : ℕ) → UsedBy b m d w p → Owner (A.role p) p d
  used-owner d l w (is_five {j = j}) p u =
      let e : five_page A d j ≡ p = sym (five-names wide m i d l j) ∙ u.1 in
      subst (λ (q : ℕ). Owner (A.role q) q d) e (five-owner wide m i d l j u.0)
  used-owner d l w (is_listed {j = j}) p u =
      let n : j < 3 * length (A.threes d) = pairs-are wide m i d l j u.0 in
      let e : page_at (A.threes d) j ≡ p = sym (listed-page wide m i d l j n) ∙ u.1 in
      subst (λ (q : ℕ). Owner (A.role q) q d) e (listed-owner wide m i d l j n)

  pub kernel-deep : (d : ℕ) → A.role d ≡ desc → (w : Way) → KernelWay w → (p : ℕ) → UsedBy b m d w p → deep i p ≡ deep i d
  kernel-deep d l w k p u = owner-deep i p d (used-owner d l w k p u)

  -- a page that d maps is deeper than d
  maps-deep : (d v p : ℕ) → A.maps d v ≡ some p → deep i d < deep i p
  maps-deep d v p e = let x = i.wf.seen d v p e in shorter wide A p d none (A.chain p) x.0 (i.wf.good p) x.1

  pub entry-deep : (d v : ℕ) → A.role d ≡ desc → idx b v < W b → entry_at b m pt d v ≢ 0 → deep i d < deep i (page_of b (entry_at b m pt d v))
  entry-deep d v l h n =
      let y = sees wide N fl (fixed b N) m A i.wf i.words d v l h n in
      subst (λ (q : ℕ). deep i d < deep i q) (sym y.page) (maps-deep d v y.x.page y.x.maps)

  -- ---- pages that a call may write

  pub writable_zero : Writable i 0
  writable_zero = head i.wf.head_role

  -- a page that the caller maps
  pub writable_entry : (v : ℕ) → idx b v < W b → Writable i (page_of b (entry_at b m pt A.cur v))
  writable_entry v h = go (eqd (entry_at b m pt A.cur v) 0)
    where
      go : Dec (entry_at b m pt A.cur v ≡ 0) → Writable i (page_of b (entry_at b m pt A.cur v))
      go (yes z) = subst (Writable i) (sym (ap (page_of b) z ∙ page_of-zero wide)) writable_zero
      go (no z) = lower (entry-deep A.cur v i.wf.cur_live h z)

  -- a shadow 1 table of the caller
  pub writable_lent : (v : ℕ) → idx b v < W b → table_at b m s1 A.cur v ≢ 0 → Writable i (table_page b m s1 A.cur v)
  writable_lent v h n = own (idx b v) (table-role wide i s1 A.cur v i.wf.cur_live h n)

  -- ---- a table is a page of the list

  pub table-listed : (x : Kind) (d y q : ℕ) → A.role q ≡ tab x d y → (j : ℕ) × UsedBy b m d (listed j) q
  table-listed x d y q r =
      let (live, has, three, page) = i.wf.tab_inv x d y q r in
      let (o, few, at) = place_of y (A.threes d) has three in
      let j : ℕ = 3 * o + kind_no x in
      let n : j < 3 * length (A.threes d) = omega (arith, few, kind-lt x) in
      let is = listed-page wide m i d live j n ∙ page-no (A.threes d) o x ∙ ap (λ (z : Three). z.page x) at ∙ page in
      (j, (omega (arith, threes-is wide m i d live), is))
