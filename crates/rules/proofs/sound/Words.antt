-- The words of a partition's pages, in the terms of soundness, are those of the state.
use mathlib.Core.Path.{◌≡◌, refl, sym, ap, ◌∙◌, subst}
use mathlib.Core.Logic.{◌≢◌}
use mathlib.Core.Bool.{false}
use mathlib.Core.Option.{Option, none, some}
use mathlib.Core.List.{List, ◌∷◌}
use Prim.Native.Nat.{ℕ, ◌+◌, ◌-◌, ◌*◌, ◌/◌, ◌≤◌, ◌<◌}
use native.Mathlib.Omega.{arith}
use lib.ListN.{length, get_or}
use Rattle.memory.specs.Geometry
use Rattle.memory.specs.Words as Mem
use Rattle.memory.specs.Entry
use Rattle.memory.specs.Partition
use Rattle.memory.specs.Tree.{Virtual, Has}
use Rattle.memory.proofs.Geometry.{directory_index-lt, address-lt, page-address}
use Rattle.rules.proofs.model.Words.{W, addr, word, page_of, idx, off, join, pte, bit, acc_of, rights_of, page_of-addr, page_of-pte, acc_of-pte, rights_of-pte, pte_nz, off-lt, join-cut, twelve-lt}
use Rattle.rules.proofs.model.Abs.{Kind, pt, s1, s2, Role, desc, root, lst, Hop, Three, Abs, head_v, Seen, seek, three_at, Good, is_hand, lent_word, seen_word, cell, link_word, desc_list, list_list, role_word}
use Rattle.rules.proofs.model.Read.{root_page, table_at, entry_at, entry-is, entry-three, three-is, cell-none, cell-some, kernel-lt, maps-at, maps-hit, maps-three, Maps, root-page}
use Rattle.rules.proofs.model.Inv.{fixed, Inv, named}
use Rattle.rules.proofs.model.Listing.{list-free}
use Rattle.rules.proofs.model.Chains.{seek-first}

module _ {b : ℕ} (wide : 6 ≤ b) where
  -- ---- virtual addresses

  pub virtual-fits : (v : ℕ) → Virtual b v → idx b (page_of b v) < W b
  unfolding idx page_of W
  virtual-fits v h = directory_index-lt b v h.1

  pub virtual-back : (v : ℕ) → Virtual b v → addr b (page_of b v) ≡ v
  unfolding addr page_of
  virtual-back v h = h.0

  pub virtual-addr : (u : ℕ) → idx b u < W b → Virtual b (addr b u)
  unfolding addr idx W off join
  virtual-addr u h = (
    ap (Geometry.address b) (page-address b u),
    subst (λ (x : ℕ). Geometry.address b x < Geometry.address_end b) (join-cut wide u) (address-lt b (idx b u) (off b u) h (off-lt wide u)),
  )

module _ (b : ℕ) (m : List ℕ) (A : Abs) where
  -- d's words for the address v, where page p is mapped
  pub record Mapping (d v p : ℕ) (s : Seen) : Type 0 where
    pub maps : A.maps d (page_of b v) ≡ some p
    pub finds : seek none d (A.chain p) ≡ some s
    pub at : s.vp ≡ page_of b v
    pub present : Partition.mapping b m d v ≢ 0
    pub page : Geometry.page_of b (Partition.mapping b m d v) ≡ p
    pub accessible : Entry.accessible (Partition.mapping b m d v) ≡ bit (is_hand (A.role p))
    pub rights : Entry.rights (Partition.mapping b m d v) ≡ s.rt
    pub whole : Partition.mapping b m d v ≡ pte b p (is_hand (A.role p)) s.rt
    pub lent : Partition.lent b m d v ≡ lent_word b A (A.role p) s.below
    pub above : Partition.above b m d v ≡ addr b s.up

module _ {b : ℕ} (wide : 6 ≤ b) (m : List ℕ) (i : Inv b m) where
  open named b i use {N, fl, A}

  read : (k : Kind) (d v : ℕ) → A.role d ≡ desc → idx b v < W b → entry_at b m k d v ≡ cell b A k d v
  read = entry-is wide N fl A i.wf (fixed b N) m i.words

  -- ---- mappings

  pub maps-fits : (d v p : ℕ) → A.role d ≡ desc → A.maps d v ≡ some p → idx b v < W b
  maps-fits d v p l e =
      let t = maps-three wide N fl A i.wf d v p e in
      (three-is wide A.role d (idx b v) (A.threes d) t.0 (i.wf.tabs d l) t.1).fits

  pub mapping_of : (d v p : ℕ) (s : Seen) → A.role d ≡ desc → A.maps d (page_of b v) ≡ some p → seek none d (A.chain p) ≡ some s → s.vp ≡ page_of b v → Mapping b m A d v p s
  unfolding entry_at root_page page_of seen_word acc_of rights_of
  mapping_of d v p s l e q z =
      let β : idx b (page_of b v) < W b = maps-fits d (page_of b v) p l e in
      let x : Maps A d (page_of b v) = record { page = p; sees = s; maps = e; finds = q; vp = z } in
      let h = maps-hit wide N fl A i.wf d (page_of b v) x in
      let n : s.rt < 8 = rw h.rt h.hop_good.small in
      let w : Partition.mapping b m d v ≡ pte b p (is_hand (A.role p)) s.rt = read pt d (page_of b v) l β ∙ cell-some wide A pt d (page_of b v) p s e q in
      record {
        maps = e;
        finds = q;
        at = z;
        present = λ y. pte_nz wide p (is_hand (A.role p)) s.rt (sym w ∙ y);
        page = ap (page_of b) w ∙ page_of-pte wide p (is_hand (A.role p)) s.rt n;
        accessible = ap acc_of w ∙ acc_of-pte wide p (is_hand (A.role p)) s.rt n;
        rights = ap rights_of w ∙ rights_of-pte wide p (is_hand (A.role p)) s.rt n;
        whole = w;
        lent = read s1 d (page_of b v) l β ∙ cell-some wide A s1 d (page_of b v) p s e q;
        above = read s2 d (page_of b v) l β ∙ cell-some wide A s2 d (page_of b v) p s e q;
      }

  pub mapping-at : (d u p : ℕ) (s : Seen) → A.role d ≡ desc → A.maps d u ≡ some p → seek none d (A.chain p) ≡ some s → s.vp ≡ u → Mapping b m A d (addr b u) p s
  mapping-at d u p s l e q z =
      let x : page_of b (addr b u) ≡ u = page_of-addr wide u in
      mapping_of d (addr b u) p s l (rw x e) q (z ∙ sym x)

  pub mapping-there : (d v : ℕ) → A.role d ≡ desc → Virtual b v → Partition.mapping b m d v ≢ 0 → (p : ℕ) × (s : Seen) × Mapping b m A d v p s
  unfolding entry_at root_page page_of
  mapping-there d v l h n =
      let x : Maps A d (page_of b v) = maps-at wide N fl A i.wf pt d (page_of b v) (λ e. n (read pt d (page_of b v) l (virtual-fits wide v h) ∙ e)) in
      (x.page, x.sees, mapping_of d v x.page x.sees l x.maps x.finds x.vp)

  -- the first hop of p's chain
  pub mapping-first : (p : ℕ) (h : Hop) (hs : List Hop) → A.chain p ≡ h ∷ hs → Mapping b m A h.part (addr b h.vp) p (record { vp = h.vp; rt = h.rt; up = head_v hs; below = none })
  mapping-first p h hs e =
      let g : Good b A p (h ∷ hs) = rw e at (i.wf.good p) in
      mapping-at h.part h.vp p _ g.0.live g.0.mapped (seek-first wide A p (A.chain p) hs h e) refl

  -- nothing is mapped at v: all three words are 0
  pub words-none : (d v : ℕ) → A.role d ≡ desc → Virtual b v → A.maps d (page_of b v) ≡ none → (Partition.mapping b m d v ≡ 0) × (Partition.lent b m d v ≡ 0) × (Partition.above b m d v ≡ 0)
  unfolding entry_at root_page page_of
  words-none d v l h e =
      let β : idx b (page_of b v) < W b = virtual-fits wide v h in (
        read pt d (page_of b v) l β ∙ cell-none wide A pt d (page_of b v) e,
        read s1 d (page_of b v) l β ∙ cell-none wide A s1 d (page_of b v) e,
        read s2 d (page_of b v) l β ∙ cell-none wide A s2 d (page_of b v) e,
      )

  pub maps_none : (d v : ℕ) → A.role d ≡ desc → Partition.mapping b m d v ≡ 0 → A.maps d (page_of b v) ≡ none
  maps_none d v l z = go (A.maps d (page_of b v)) refl
    where
      go : (o : Option ℕ) → A.maps d (page_of b v) ≡ o → A.maps d (page_of b v) ≡ none
      go none e = e
      go (some p) e =
          let w = i.wf.seen d (page_of b v) p e in
          absurd ((mapping_of d v p w.0 l e w.1 w.2).present z)

  -- ---- tables

  pub has-three : (d v : ℕ) (t : Three) → A.role d ≡ desc → Virtual b v → three_at (idx b (page_of b v)) (A.threes d) ≡ some t → Has b m d v
  unfolding table_at root_page page_of
  has-three d v t l h e = record { virtual = h; table = (entry-three wide N fl A i.wf (fixed b N) m (cell b A) i.words pt d (page_of b v) t l e).3 }

  pub has-mapping : (d v p : ℕ) (s : Seen) → A.role d ≡ desc → Virtual b v → Mapping b m A d v p s → Has b m d v
  has-mapping d v p s l h x =
      let t = maps-three wide N fl A i.wf d (page_of b v) p x.maps in
      has-three d v t.0 l h t.1

  pub has-at : (d u p : ℕ) (s : Seen) → A.role d ≡ desc → Mapping b m A d (addr b u) p s → Has b m d (addr b u)
  has-at d u p s l x = has-mapping d (addr b u) p s l (virtual-addr wide u (subst (λ (z : ℕ). idx b z < W b) (page_of-addr wide u) (maps-fits d (page_of b (addr b u)) p l x.maps))) x

  -- ---- the words of kernel pages

  pub kernel-fits : (q : ℕ) → is_hand (A.role q) ≡ false → q < N
  kernel-fits = kernel-lt wide N fl A i.wf

  pub kernel-word : (q j : ℕ) (r : Role) → A.role q ≡ r → is_hand r ≡ false → j < Geometry.page_words b → Mem.word b m q j ≡ role_word b (fixed b N) A (cell b A) r q j
  unfolding word W
  kernel-word q j r e h l =
      let k : is_hand (A.role q) ≡ false = ap is_hand e ∙ h in
      i.words.says q j (kernel-fits q k) l k ∙ ap (λ (x : Role). role_word b (fixed b N) A (cell b A) x q j) e

  pub descriptor-word : (d j : ℕ) → A.role d ≡ desc → j < Geometry.page_words b → Mem.word b m d j ≡ get_or (desc_list b A d) j 0
  unfolding role_word
  descriptor-word d j e l = kernel-word d j desc e refl l

  pub root-word : (k : Kind) (d j : ℕ) → A.role d ≡ desc → j < Geometry.page_words b → Mem.word b m (A.rootp k d) j ≡ link_word b k (three_at j (A.threes d))
  unfolding role_word
  root-word k d j e l = kernel-word (A.rootp k d) j (root k d) (i.wf.root_role k d e) refl l

  pub list-word : (d j : ℕ) → A.role d ≡ desc → j < Geometry.page_words b → Mem.word b m (A.lstp d) j ≡ get_or (list_list b A.chain (A.threes d)) j 0
  unfolding role_word
  list-word d j e l = kernel-word (A.lstp d) j (lst d) (i.wf.lst_role d e) refl l

  -- ---- the pages that a descriptor names

  twelve : (j : ℕ) → j < 12 → j < Geometry.page_words b
  unfolding W
  twelve j l = twelve-lt wide j l

  pub directory-is : (d : ℕ) → A.role d ≡ desc → Partition.directory b m d ≡ A.rootp pt d
  unfolding root_page
  directory-is d l = root-page wide N fl A i.wf (fixed b N) m (cell b A) i.words pt d l

  pub shadow1-is : (d : ℕ) → A.role d ≡ desc → Partition.shadow1 b m d ≡ A.rootp s1 d
  unfolding root_page
  shadow1-is d l = root-page wide N fl A i.wf (fixed b N) m (cell b A) i.words s1 d l

  pub shadow2-is : (d : ℕ) → A.role d ≡ desc → Partition.shadow2 b m d ≡ A.rootp s2 d
  unfolding root_page
  shadow2-is d l = root-page wide N fl A i.wf (fixed b N) m (cell b A) i.words s2 d l

  pub list-is : (d : ℕ) → A.role d ≡ desc → Partition.list b m d ≡ A.lstp d
  unfolding page_of addr desc_list
  list-is d l = ap (page_of b) (descriptor-word d 9 l (twelve 9 (omega arith))) ∙ page_of-addr wide (A.lstp d)

  pub threes-is : (d : ℕ) → A.role d ≡ desc → Partition.threes b m d ≡ length (A.threes d)
  threes-is d l =
      let w : Mem.word b m (Partition.list b m d) 0 ≡ 1 + 6 * length (A.threes d) = ap (λ (x : ℕ). Mem.word b m x 0) (list-is d l) ∙ list-word d 0 l (twelve 0 (omega arith)) ∙ list-free b A.chain (A.threes d) in
      ap (λ (x : ℕ). (x - 1) / 6) w ∙ omega arith
