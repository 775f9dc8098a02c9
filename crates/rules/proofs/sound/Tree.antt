-- The tree of partitions on the words: the partitions are the descriptors of the state, each as deep as its chain is long.
use mathlib.Core.Path.{◌≡◌, refl, sym, ap, ◌∙◌, subst}
use mathlib.Core.List.{List, [], ◌∷◌}
use Prim.Native.Nat.{ℕ, zero, suc, ◌≤◌}
use native.Mathlib.Omega.{arith}
use lib.ListN.{length}
use Rattle.memory.specs.Geometry.{most_depth}
use Rattle.memory.specs.Partition.{current}
use Rattle.memory.specs.Tree.{Child, InTree}
use Rattle.rules.proofs.model.Words.{addr, page_of}
use Rattle.rules.proofs.model.Abs.{pt, s1, desc, Hop, Abs, parts, Good, lent_word}
use Rattle.rules.proofs.model.Facts.{length-parts, parts_of}
use Rattle.rules.proofs.model.Read.{root_page, entry_at, entry-is, child-view}
use Rattle.rules.proofs.model.Walk.{hop-depth}
use Rattle.rules.proofs.model.Inv.{fixed, Inv, named, live}
use Rattle.rules.proofs.sound.Words.{Mapping, mapping-first, has-at, virtual-fits}

-- c is a child of d in the state, mapped there at virtual page u
pub record IsChild (A : Abs) (d u c : ℕ) : Type 0 where
  pub live : A.role c ≡ desc
  pub hop : Hop
  pub rest : List Hop
  pub is : A.chain c ≡ hop ∷ rest
  pub part : hop.part ≡ d
  pub vp : hop.vp ≡ u

module _ {b : ℕ} (wide : 6 ≤ b) (m : List ℕ) (i : Inv b m) where
  open named b i use {N, fl, A}

  pub child-is : (d v c : ℕ) → A.role d ≡ desc → Child b m d v c → IsChild A d (page_of b v) c
  unfolding entry_at root_page page_of
  child-is d v c l k =
      let β = virtual-fits wide v k.has.virtual in
      let x = child-view wide N fl A i.wf d (page_of b v) (sym (entry-is wide N fl A i.wf (fixed b N) m i.words s1 d (page_of b v) l β) ∙ k.mark) in
      let y : x.0 ≡ c = sym x.2.page ∙ ap (page_of b) (sym (entry-is wide N fl A i.wf (fixed b N) m i.words pt d (page_of b v) l β)) ∙ k.page in
      subst (IsChild A d (page_of b v)) y (record { live = x.1; hop = x.2.hop; rest = x.2.rest; is = x.2.is; part = x.2.part; vp = x.2.vp })

  pub child-at : (c : ℕ) (h : Hop) (hs : List Hop) → A.role c ≡ desc → A.chain c ≡ h ∷ hs → Child b m h.part (addr b h.vp) c
  unfolding lent_word
  child-at c h hs l e =
      let x : Mapping b m A h.part (addr b h.vp) c _ = mapping-first wide m i c h hs e in
      let g : Good b A c (h ∷ hs) = rw e at (i.wf.good c) in
      record { has = has-at wide m i h.part h.vp c _ g.0.live x; present = x.present; mark = x.lent ∙ (rw l refl); page = x.page }

  pub child-parts : (d u c : ℕ) → IsChild A d u c → parts (A.chain c) ≡ d ∷ parts (A.chain d)
  child-parts d u c k = parts_of wide N fl A i.wf c d k.hop k.rest k.is k.part

  child-depth : (d u c : ℕ) → IsChild A d u c → length (A.chain c) ≡ suc (length (A.chain d))
  child-depth d u c k = sym (length-parts (A.chain c)) ∙ ap length (child-parts d u c k) ∙ ap suc (length-parts (A.chain d))

  pub in_tree-is : (k d : ℕ) → InTree b m k d → (A.role d ≡ desc) × (length (A.chain d) ≡ k)
  in_tree-is k d InTree.root = (i.wf.root_live, ap length i.wf.root_top)
  in_tree-is k c (InTree.child {d = d} {v = v} t x) =
      let r = in_tree-is _ d t in
      let y : IsChild A d (page_of b v) c = child-is d v c r.0 x in
      (y.live, child-depth d (page_of b v) c y ∙ ap suc r.1)

  pub in_tree-live : (k d : ℕ) → InTree b m k d → A.role d ≡ desc
  in_tree-live k d t = (in_tree-is k d t).0

  in_tree-from : (n d : ℕ) (hs : List Hop) → A.role d ≡ desc → A.chain d ≡ hs → length hs ≡ n → InTree b m n d
  in_tree-from zero d [] l e z = subst (InTree b m 0) (sym (i.wf.root_only d l e)) InTree.root
  in_tree-from zero d (h ∷ hs) l e z = absurd (omega arith)
  in_tree-from (suc n) d [] l e z = absurd (omega arith)
  in_tree-from (suc n) d (h ∷ hs) l e z =
      let g : Good b A d (h ∷ hs) = rw e at (i.wf.good d) in
      InTree.child (in_tree-from n h.part (A.chain h.part) g.0.live refl (omega (arith, hop-depth wide A d h hs g.0))) (child-at d h hs l e)

  pub live_in_tree : (d : ℕ) → A.role d ≡ desc → InTree b m (length (A.chain d)) d
  live_in_tree d l = in_tree-from (length (A.chain d)) d (A.chain d) l refl refl

  -- ---- sentence 5

  pub sound-depth : (k d : ℕ) → InTree b m k d → k ≤ most_depth
  sound-depth k d t = let r = in_tree-is k d t in omega (arith, r.1, i.wf.depth d r.0)

  pub sound-current : (k : ℕ) × InTree b m k (current b m)
  sound-current = (length (A.chain (current b m)), live_in_tree (current b m) (live wide m i))
