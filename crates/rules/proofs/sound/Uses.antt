-- Sentence 8: each page but the first is in exactly one hand or one kernel use.
use mathlib.Core.Path.{◌≡◌, refl, sym, ap, ◌∙◌, subst}
use mathlib.Core.Bool.{Bool, true, false, false≢true}
use mathlib.Core.List.{List, [], ◌∷◌}
use Prim.Native.Nat.{ℕ, zero, suc, ◌+◌, ◌*◌, ◌≤◌, ◌<◌}
use native.Mathlib.Omega.{arith}
use lib.ListN.{length, get_or}
use Rattle.memory.specs.Geometry
use Rattle.memory.specs.Words as Mem
use Rattle.memory.specs.Partition
use Rattle.memory.specs.Uses.{Way, five, listed, in_hand, KernelWay, is_five, is_listed, five_pages, UsedBy, Use, KernelPage, serves}
use Rattle.memory.specs.Sound.{Uses}
use Rattle.rules.proofs.model.Base.{eqd}
use Rattle.rules.proofs.model.Words.{addr, page_of, bit, page_of-addr}
use Rattle.rules.proofs.model.Abs.{pt, s1, s2, Role, header, hand, blank, desc, root, lst, tab, Hop, Abs, Good, Owner, is_hand, own_word, lent_word, tag}
use Rattle.rules.proofs.model.Facts.{is-hand, Top}
use Rattle.rules.proofs.model.Inv.{Inv, pages-is}
use Rattle.rules.proofs.model.Listing.{page_at, at_one}
use Rattle.rules.proofs.sound.Views.{owner-kernel}
use Rattle.rules.proofs.sound.Words.{Mapping, mapping-there, mapping-first, has-at, virtual-back, directory-is, shadow1-is, shadow2-is, list-is, threes-is}
use Rattle.rules.proofs.sound.Tree.{live_in_tree, in_tree-live}
use Rattle.rules.proofs.sound.Pages.{five_page, five_role, five-role, five-owner, pairs-are, listed-role, listed-owner, listed-physical}
use Rattle.rules.proofs.sound.Places.{Place, in-hand, in_five, in_list, place, not-lent}

-- the partition that a role names, and which of its five the page is
abbrev part_of : Role → ℕ → ℕ
part_of header p = 0
part_of hand p = 0
part_of blank p = 0
part_of desc p = p
part_of (root k d) p = d
part_of (lst d) p = d
part_of (tab k d x) p = d

abbrev five_no : Role → ℕ
five_no header = 5
five_no hand = 5
five_no blank = 5
five_no desc = 0
five_no (root pt d) = 1
five_no (root s1 d) = 2
five_no (root s2 d) = 3
five_no (lst d) = 4
five_no (tab k d x) = 5

five-part : (A : Abs) (d j : ℕ) → j < 5 → part_of (five_role d j) (five_page A d j) ≡ d
five-part A d zero l = refl
five-part A d (suc zero) l = refl
five-part A d (suc (suc zero)) l = refl
five-part A d (suc (suc (suc zero))) l = refl
five-part A d (suc (suc (suc (suc j)))) l = refl

five-no : (d j : ℕ) → j < 5 → five_no (five_role d j) ≡ j
five-no d zero l = refl
five-no d (suc zero) l = refl
five-no d (suc (suc zero)) l = refl
five-no d (suc (suc (suc zero))) l = refl
five-no d (suc (suc (suc (suc j)))) l = omega arith

bit-one : (a : Bool) → bit a ≡ 1 → a ≡ true
bit-one true e = refl
bit-one false e = absurd (omega arith)

module _ (b : ℕ) (A : Abs) where
  -- d's page p in hand at v, in the state
  pub record Holds (d v p : ℕ) : Type 0 where
    pub role : A.role p ≡ hand
    pub hop : Hop
    pub rest : List Hop
    pub is : A.chain p ≡ hop ∷ rest
    pub part : hop.part ≡ d
    pub at : addr b hop.vp ≡ v

  -- a use, in the state
  abbrev pub StateUse : ℕ → Way → ℕ → Type 0
  StateUse d (five j) p = (j < 5) × (five_page A d j ≡ p)
  StateUse d (listed j) p = (j < 3 * length (A.threes d)) × (page_at (A.threes d) j ≡ p)
  StateUse d (in_hand v) p = Holds d v p

module _ {b : ℕ} (wide : 6 ≤ b) (m : List ℕ) (i : Inv b m) where
  abbrev A : Abs
  A = i.state

  module _ (d : ℕ) (l : A.role d ≡ desc) where
    pub five-names : (j : ℕ) → get_or (five_pages b m d) j 0 ≡ five_page A d j
    five-names j = λ t. get_or (d ∷ directory-is wide m i d l t ∷ shadow1-is wide m i d l t ∷ shadow2-is wide m i d l t ∷ list-is wide m i d l t ∷ []) j 0

    -- ---- from the words to the state

    pub holds : (v p : ℕ) → UsedBy b m d (in_hand v) p → Holds b A d v p
    holds v p u =
        let y = mapping-there wide m i d v l u.0.virtual u.1 in
        let e : y.0 ≡ p = sym y.2.page ∙ u.4 in
        let h : bit (is_hand (A.role y.0)) ≡ 1 = sym y.2.accessible ∙ u.2 in
        let t : Top d (A.chain y.0) y.1 = not-lent wide m i d v y.0 y.1 y.2 (omega (arith, u.3)) in
        subst (Holds b A d v) e (record {
          role = is-hand (A.role y.0) (bit-one (is_hand (A.role y.0)) h);
          hop = t.hop;
          rest = t.rest;
          is = t.is;
          part = t.part;
          at = ap (addr b) (sym t.vp ∙ y.2.at) ∙ virtual-back wide v u.0.virtual;
        })

    pub listed-page : (j : ℕ) → j < 3 * length (A.threes d) → Geometry.page_of b (Mem.word b m (Partition.list b m d) (2 + 2 * j)) ≡ page_at (A.threes d) j
    unfolding page_of
    listed-page j n = ap (page_of b) (listed-physical wide m i d l j n) ∙ page_of-addr wide (page_at (A.threes d) j)

    to-state : (w : Way) (p : ℕ) → UsedBy b m d w p → StateUse b A d w p
    to-state (five j) p u = (u.0, sym (five-names j) ∙ u.1)
    to-state (listed j) p u = let n : j < 3 * length (A.threes d) = pairs-are wide m i d l j u.0 in (n, sym (listed-page j n) ∙ u.1)
    to-state (in_hand v) p u = holds v p u

    -- ---- what the role says of the use

    five_use : (j p : ℕ) → StateUse b A d (five j) p → (part_of (A.role p) p ≡ d) × (five_no (A.role p) ≡ j)
    five_use j p u =
        let r : A.role p ≡ five_role d j = ap A.role (sym u.1) ∙ five-role wide m i d l j u.0 in
        (ap (λ (x : Role). part_of x p) r ∙ ap (part_of (five_role d j)) (sym u.1) ∙ five-part A d j u.0, ap five_no r ∙ five-no d j u.0)

    listed_use : (j p : ℕ) → StateUse b A d (listed j) p → (part_of (A.role p) p ≡ d) × (tag (A.role p) ≡ 6) × (five_no (A.role p) ≡ 5)
    listed_use j p u =
        let r = ap A.role (sym u.1) ∙ listed-role wide m i d l j u.0 in
        (ap (λ (x : Role). part_of x p) r, ap tag r, ap five_no r)

  same : (d e : ℕ) → A.role d ≡ desc → A.role e ≡ desc → (w x : Way) (p : ℕ) → StateUse b A d w p → StateUse b A e x p → (d ≡ e) × (w ≡ x)
  same d e l k (five j) (five n) p u t =
      let a = five_use d l j p u in
      let c = five_use e k n p t in
      (sym a.0 ∙ c.0, ap five (sym a.1 ∙ c.1))
  same d e l k (five j) (listed n) p u t = absurd (omega (arith, u.0, (five_use d l j p u).1, (listed_use e k n p t).2))
  same d e l k (five j) (in_hand v) p u t = absurd (omega (arith, u.0, (five_use d l j p u).1, ap five_no t.role))
  same d e l k (listed j) (five n) p u t = absurd (omega (arith, t.0, (five_use e k n p t).1, (listed_use d l j p u).2))
  same d e l k (listed j) (listed n) p u t =
      let q : d ≡ e = sym (listed_use d l j p u).0 ∙ (listed_use e k n p t).0 in
      let h : StateUse b A d (listed n) p = subst (λ (y : ℕ). StateUse b A y (listed n) p) (sym q) t in
      (q, ap listed (at_one wide A.role d (A.threes d) j n (i.wf.tabs d l) u.0 h.0 (u.1 ∙ sym h.1)))
  same d e l k (listed j) (in_hand v) p u t = absurd (omega (arith, (listed_use d l j p u).1, ap tag t.role))
  same d e l k (in_hand v) (five n) p u t = absurd (omega (arith, t.0, (five_use e k n p t).1, ap five_no u.role))
  same d e l k (in_hand v) (listed n) p u t = absurd (omega (arith, (listed_use e k n p t).1, ap tag u.role))
  same d e l k (in_hand v) (in_hand y) p u t =
      let w : u.hop ∷ u.rest ≡ t.hop ∷ t.rest = sym u.is ∙ t.is in
      let h : u.hop ≡ t.hop = cc in
      (sym u.part ∙ ap (λ (z : Hop). z.part) h ∙ t.part, ap in_hand (sym u.at ∙ ap (λ (z : Hop). addr b z.vp) h ∙ t.at))

  -- ---- some use

  held : (p : ℕ) → A.role p ≡ hand → p < i.N → Use b m p
  unfolding lent_word
  held p e n = go (A.chain p) refl
    where
      go : (hs : List Hop) → A.chain p ≡ hs → Use b m p
      go [] z = absurd (i.wf.held p e n z)
      go (h ∷ hs) z =
          let g : Good b A p (h ∷ hs) = rw z at (i.wf.good p) in
          let x : Mapping b m A h.part (addr b h.vp) p _ = mapping-first wide m i p h hs z in
          record {
            depth = length (A.chain h.part);
            part = h.part;
            way = in_hand (addr b h.vp);
            tree = live_in_tree wide m i h.part g.0.live;
            used = (has-at wide m i h.part h.vp p _ g.0.live x, x.present, x.accessible ∙ ap (λ (r : Role). bit (is_hand r)) e, x.lent ∙ ap own_word e, x.page);
          }

  abbrev as_five : (p d j : ℕ) → A.role d ≡ desc → j < 5 → five_page A d j ≡ p → Use b m p
  as_five p d j l k e = record { depth = length (A.chain d); part = d; way = five j; tree = live_in_tree wide m i d l; used = (k, five-names d l j ∙ e) }

  abbrev as_listed : (p d j : ℕ) → A.role d ≡ desc → j < 3 * length (A.threes d) → page_at (A.threes d) j ≡ p → Use b m p
  as_listed p d j l k e = record {
    depth = length (A.chain d);
    part = d;
    way = listed j;
    tree = live_in_tree wide m i d l;
    used = (omega (arith, threes-is wide m i d l), listed-page d l j k ∙ e);
  }

  some_use : (p : ℕ) → p < i.N → Place A p → Use b m p
  some_use p n (in-hand e) = held p e n
  some_use p n (in_five d j l k e) = as_five p d j l k e
  some_use p n (in_list d j l k e) = as_listed p d j l k e

  -- the kernel pages are those in no hand
  pub kernel-page : (p : ℕ) → is_hand (A.role p) ≡ false → KernelPage b m p
  kernel-page p h = elim (eqd p 0) [
    | yes e ↦ subst (KernelPage b m) (sym e) KernelPage.header
    | no n ↦ elim (place wide m i p n) [
      | in-hand e ↦ absurd (false≢true (sym h ∙ ap is_hand e))
      | in_five d j l k e ↦ serves (as_five p d j l k e) is_five
      | in_list d j l k e ↦ serves (as_listed p d j l k e) is_listed
    ]
  ]

  pub kernel-shut : (p : ℕ) → KernelPage b m p → is_hand (A.role p) ≡ false
  kernel-shut p KernelPage.header = ap is_hand i.wf.head_role
  kernel-shut p (serves u w) = go u.way w u.used
    where
      l : A.role u.part ≡ desc
      l = in_tree-live wide m i u.depth u.part u.tree

      owned : {q : ℕ} → q ≡ p → Owner (A.role q) q u.part → is_hand (A.role p) ≡ false
      owned {q} e o = subst (λ (z : ℕ). is_hand (A.role z) ≡ false) e (owner-kernel (A.role q) q u.part o)

      go : (y : Way) → KernelWay y → UsedBy b m u.part y p → is_hand (A.role p) ≡ false
      go (five j) is_five x =
          let (n, e) = to-state u.part l (five j) p x in
          owned e (five-owner wide m i u.part l j n)
      go (listed j) is_listed x =
          let (n, e) = to-state u.part l (listed j) p x in
          owned e (listed-owner wide m i u.part l j n)
      go (in_hand _) k x = elim k [ ]

  pub sound-uses : Uses b m
  sound-uses =
      let e : Partition.pages b m ≡ i.N = pages-is wide m i in
      record {
        some = λ p n k. some_use p (omega arith) (place wide m i p (omega arith));
        one = λ p n k u w.
            let l = in_tree-live wide m i u.depth u.part u.tree in
            let r = in_tree-live wide m i w.depth w.part w.tree in
            same u.part w.part l r u.way w.way p (to-state u.part l u.way p u.used) (to-state w.part r w.way p w.used);
      }
