-- Two memories that agree on what B and those below it see: every lookup of such a partition is the same in both, and so are the pages that B sees. The
-- calls read and write by these lookups. Assumes an index width of 6 or more.
use mathlib.Core.Path.{◌≡◌, refl, sym, ap, ◌∙◌, subst}
use mathlib.Core.List.{List, [], ◌∷◌}
use mathlib.Core.Logic.{◌≢◌, ◌⊎◌, inl, inr}
use Prim.Native.Nat.{ℕ, zero, suc, ◌+◌, ◌-◌, ◌*◌, ◌/◌, ◌≤◌, ◌<◌}
use native.Mathlib.Omega.{arith}
use lib.ListN.{get_or}
use Rattle.memory.specs.Geometry
use Rattle.memory.specs.Words as Mem
use Rattle.memory.specs.Partition.{pages, current, parent, list, threes, table_for, mapping, lent, above}
use Rattle.memory.specs.Tree.{Has, Child, InTree, child}
use Rattle.memory.specs.Uses.{Way, five, listed, five_pages, KernelWay, is_five, is_listed, UsedBy}
use Rattle.memory.specs.Sound.{Forms, Sound}
use Rattle.soundness.proofs.Whole.{small, used-inside}
use Rattle.rules.proofs.model.Base.{eqd}
use Rattle.rules.proofs.model.Words.{W, word, idx, off, page_of, off-lt, twelve-lt, sixty_one}
use Rattle.rules.proofs.model.Abs.{Kind, pt, s1, s2, desc}
use Rattle.rules.proofs.model.Read.{root_page, table_at, table_page, entry_at, slot, entry-there, entry_absent}
use Rattle.rules.proofs.model.Inv.{Inv}
use Rattle.rules.proofs.sound.Words.{virtual-fits}
use Rattle.rules.proofs.sound.Tree.{in_tree-is}
use Rattle.rules.proofs.state.Tree.{room}
use Rattle.rules.proofs.state.Tree as Tree
use Rattle.rules.proofs.state.Found.{serving-at}
use Rattle.rules.proofs.state.Represented.{sound-inv}
use Rattle.claim.specs.Kept.{Maps}
use Rattle.claim.proofs.Sharing.{vertical}
use Rattle.neighbours.specs.Neighbours.{Within, itself, below, Shown, kernel, mapped, EqualOn}
use Rattle.neighbours.proofs.Levels.{deep, slot_lt, root-slot, table-role}
use Rattle.neighbours.proofs.Pages.{kernel-deep, entry-deep, table-listed}

module _ (b : ℕ) where
  -- as Alike, but the current partition, the same in both, may be one below B
  pub record Twin (B : ℕ) (m n : List ℕ) : Type 0 where
    pub wide : 6 ≤ b
    pub sound₁ : Sound b m
    pub sound₂ : Sound b n
    pub count : pages b m ≡ pages b n
    pub same : current b m ≡ current b n
    pub inside : Within b m B (current b m)
    pub depth : ℕ
    pub depth₁ : InTree b m depth B
    pub depth₂ : InTree b n depth B
    pub words : EqualOn b (Shown b m B) m n

-- ---- one memory

module _ {b : ℕ} (wide : 6 ≤ b) (B : ℕ) (m : List ℕ) (s : Sound b m) {k : ℕ} (t : InTree b m k B) where
  abbrev inv : Inv b m
  inv = sound-inv wide m s

  pub within-tree : {d : ℕ} → Within b m B d → (j : ℕ) × InTree b m j d × (k ≤ j)
  within-tree itself = (k, t, omega arith)
  within-tree (below w a) = let (j, u, l) = within-tree w in (suc j, child u a, omega arith)

  pub within-live : {d : ℕ} → Within b m B d → inv.state.role d ≡ desc
  within-live {d} w = let (j, u, l) = within-tree w in (in_tree-is wide m inv j d u).0

  pub within-deep : {d : ℕ} → Within b m B d → k ≤ deep inv d
  within-deep {d} w = let (j, u, l) = within-tree w in omega (arith, (in_tree-is wide m inv j d u).1, l)

  -- the partition above one that is not B
  pub within-up : {d : ℕ} → Within b m B d → d ≢ B → Within b m B (parent b m d)
  within-up itself n = absurd (n refl)
  within-up (below w a) n = let (j, u, l) = within-tree w in subst (Within b m B) (sym (Tree.parent_is wide m s u a)) w

  -- what a partition below maps, B maps
  pub maps-up : {d p : ℕ} → Within b m B d → Maps b m d p → Maps b m B p
  maps-up itself x = x
  maps-up {p = p} (below w a) x = let (j, u, l) = within-tree w in maps-up w (vertical b m s u a p x)

  -- a kernel page of a partition below B is mapped in B
  pub shown-split : {p : ℕ} → Shown b m B p → ((w : Way) × KernelWay w × UsedBy b m B w p) ⊎ Maps b m B p
  shown-split (kernel w itself y z) = inl (w, y, z)
  shown-split (kernel {p = p} w (below x a) y z) =
      let (j, u, l) = within-tree x in
      let q = serving-at wide m s u a w y p z in
      inr (maps-up x (record { at = _; has = q.has; present = q.present; page = q.page }))
  shown-split (mapped x) = inr x

  maps-deeper : {d p : ℕ} → Within b m B d → Maps b m d p → deep inv d < deep inv p
  unfolding entry_at root_page page_of
  maps-deeper {d} w x =
      let u : ℕ = page_of b x.at in
      let deeper = entry-deep wide inv d u (within-live w) (virtual-fits wide x.at x.has.virtual) x.present in
      subst (λ (q : ℕ). deep inv d < deep inv q) x.page deeper

  -- a page that B sees is at least as deep as B
  pub shown-far : {p : ℕ} → Shown b m B p → k ≤ deep inv p
  shown-far (kernel {d = d} {p = p} w x y z) = omega (arith, kernel-deep wide inv d (within-live x) w y p z, within-deep x)
  shown-far (mapped x) = omega (arith, within-deep itself, maps-deeper itself x)

  pub shown-fits : {p : ℕ} → Shown b m B p → p < pages b m
  shown-fits (kernel {d = d} {p = p} w x y z) = let (j, u, l) = within-tree x in (used-inside b m s (room wide) u w p z).1
  shown-fits (mapped x) = subst (λ (q : ℕ). q < pages b m) x.page (small b m s t x.at x.has x.present)

-- ---- the pages of a partition d within B

module _ {b B : ℕ} {m : List ℕ} {d : ℕ} (w : Within b m B d) where
  pub part-shown : Shown b m B d
  part-shown = kernel (five 0) w is_five (omega arith, refl)

  root-shown : (x : Kind) → Shown b m B (root_page b m x d)
  unfolding root_page
  root-shown pt = kernel (five 1) w is_five (omega arith, refl)
  root-shown s1 = kernel (five 2) w is_five (omega arith, refl)
  root-shown s2 = kernel (five 3) w is_five (omega arith, refl)

  pub list-shown : Shown b m B (list b m d)
  list-shown = kernel (five 4) w is_five (omega arith, refl)

-- ---- two memories

module _ {b B : ℕ} {m n : List ℕ} (t : Twin b B m n) where
  open t use {wide, sound₁, sound₂, count, same, depth, depth₁, depth₂, words}

  abbrev pub inv₁ : Inv b m
  inv₁ = sound-inv wide m sound₁

  abbrev pub inv₂ : Inv b n
  inv₂ = sound-inv wide n sound₂

  -- page 0, and what B sees
  abbrev pub Compared : ℕ → Type 0
  Compared p = (p ≡ 0) ⊎ Shown b m B p

  header-same : (x : ℕ) → x < Geometry.page_words b → Mem.word b m 0 x ≡ Mem.word b n 0 x
  header-same zero l = count
  header-same (suc zero) l = sound₁.header.threes ∙ ap (Geometry.threes_for b) count ∙ sym sound₂.header.threes
  header-same (suc (suc zero)) l = sound₁.header.descriptor ∙ sym sound₂.header.descriptor
  header-same (suc (suc (suc zero))) l =
      sound₁.header.first ∙ ap (λ (y : ℕ). Geometry.address b (6 + 3 * Geometry.threes_for b y)) count ∙ sym sound₂.header.first
  header-same (suc (suc (suc (suc zero)))) l = sym sound₁.header.current.0 ∙ ap (Geometry.address b) same ∙ sound₂.header.current.0
  header-same (suc (suc (suc (suc (suc zero))))) l = sound₁.header.edition ∙ sym sound₂.header.edition
  header-same (suc (suc (suc (suc (suc (suc x)))))) l = sound₁.header.rest _ l (omega arith) ∙ sym (sound₂.header.rest _ l (omega arith))

  pub compared_same : (p x : ℕ) → Compared p → x < W b → word b m p x ≡ word b n p x
  unfolding W word
  compared_same p x (inl e) l = ap (λ (q : ℕ). Mem.word b m q x) e ∙ header-same x l ∙ ap (λ (q : ℕ). Mem.word b n q x) (sym e)
  compared_same p x (inr e) l = words p e x l

  -- ---- a partition d within B

  module _ {d : ℕ} (w : Within b m B d) where
    pub live₁ : inv₁.state.role d ≡ desc
    live₁ = within-live wide B m sound₁ depth₁ w

    pub forms₁ : Forms b m d
    forms₁ = let (k, u, l) = within-tree wide B m sound₁ depth₁ w in sound₁.forms k d u

    part_same : (x : ℕ) → x < W b → word b m d x ≡ word b n d x
    part_same x l = compared_same d x (inr (part-shown w)) l

    pub root-same : (x : Kind) → root_page b m x d ≡ root_page b n x d
    root-same x = root-slot b m x d ∙ ap (page_of b) (part_same (slot x) (slot_lt wide x)) ∙ sym (root-slot b n x d)

    pub parent-same : parent b m d ≡ parent b n d
    unfolding word
    parent-same = ap (Geometry.page_of b) (part_same 11 (twelve-lt wide 11 (omega arith)))

    pub list_same : list b m d ≡ list b n d
    unfolding word
    list_same = ap (Geometry.page_of b) (part_same 9 (twelve-lt wide 9 (omega arith)))

    pub list-words : (x : ℕ) → x < W b → Mem.word b m (list b m d) x ≡ Mem.word b n (list b n d) x
    unfolding word
    list-words x l = compared_same (list b m d) x (inr (list-shown w)) l ∙ ap (λ (q : ℕ). Mem.word b n q x) list_same

    pub threes-same : threes b m d ≡ threes b n d
    threes-same = ap (λ (x : ℕ). (x - 1) / 6) (list-words 0 (twelve-lt wide 0 (omega arith)))

    -- ---- its tables of kind x at virtual page v

    module _ (x : Kind) (v : ℕ) (l : idx b v < W b) where
      pub table-shown : table_at b m x d v ≢ 0 → Shown b m B (table_page b m x d v)
      table-shown n =
          let (j, u) = table-listed wide inv₁ x d (idx b v) (table_page b m x d v) (table-role wide inv₁ x d v live₁ l n) in
          kernel (listed j) w is_listed u

      pub table_same : table_at b m x d v ≡ table_at b n x d v
      unfolding table_at word idx
      table_same = compared_same (root_page b m x d) (idx b v) (inr (root-shown w x)) l ∙ ap (λ (q : ℕ). word b n q (idx b v)) (root-same x)

      pub entry-same : entry_at b m x d v ≡ entry_at b n x d v
      unfolding table_page
      entry-same = go (eqd (table_at b m x d v) 0)
        where
          go : Dec (table_at b m x d v ≡ 0) → entry_at b m x d v ≡ entry_at b n x d v
          go (yes z) = entry_absent b m x d v z ∙ sym (entry_absent b n x d v (sym table_same ∙ z))
          go (no z) =
              entry-there b m x d v z ∙ compared_same (table_page b m x d v) (off b v) (inr (table-shown z)) (off-lt wide v)
              ∙ ap (λ (q : ℕ). word b n (page_of b q) (off b v)) table_same ∙ sym (entry-there b n x d v (λ y. z (table_same ∙ y)))

    -- ---- at an address

    module _ (v : ℕ) (fits : idx b (page_of b v) < W b) where
      pub table_for-same : table_for b m d v ≡ table_for b n d v
      unfolding table_at root_page page_of
      table_for-same = table_same pt (page_of b v) fits

      pub mapping-same : mapping b m d v ≡ mapping b n d v
      unfolding entry_at root_page page_of
      mapping-same = entry-same pt (page_of b v) fits

      pub lent_same : lent b m d v ≡ lent b n d v
      unfolding entry_at root_page page_of
      lent_same = entry-same s1 (page_of b v) fits

      pub above_same : above b m d v ≡ above b n d v
      unfolding entry_at root_page page_of
      above_same = entry-same s2 (page_of b v) fits

    -- ---- what it has in m it has in n

    has-to : (v : ℕ) → Has b m d v → Has b n d v
    has-to v h = record { virtual = h.virtual; table = λ z. h.table (table_for-same v (virtual-fits wide v h.virtual) ∙ z) }

    pub child-to : {v c : ℕ} → Child b m d v c → Child b n d v c
    child-to {v} {c} a =
        let h = virtual-fits wide v a.has.virtual in
        record {
          has = has-to v a.has;
          present = λ z. a.present (mapping-same v h ∙ z);
          mark = sym (lent_same v h) ∙ a.mark;
          page = ap (Geometry.page_of b) (sym (mapping-same v h)) ∙ a.page;
        }

    maps-to : {p : ℕ} → Maps b m d p → Maps b n d p
    maps-to x =
        let h = virtual-fits wide x.at x.has.virtual in
        record {
          at = x.at;
          has = has-to x.at x.has;
          present = λ z. x.present (mapping-same x.at h ∙ z);
          page = ap (Geometry.page_of b) (sym (mapping-same x.at h)) ∙ x.page;
        }

    -- the words of a list's pairs are on its page
    list-fits : (j : ℕ) → j < 3 * threes b m d → 2 + 2 * j < W b
    list-fits j l = omega (arith, forms₁.list.few, sixty_one wide)

    pub used-to : (p : ℕ) (y : Way) → KernelWay y → UsedBy b m d y p → UsedBy b n d y p
    unfolding root_page
    used-to p y (is_five {j = j}) u = (u.0, sym (ap (λ (l : List ℕ). get_or l j 0) five-same) ∙ u.1)
      where
        five-same : five_pages b m d ≡ five_pages b n d
        five-same = λ e. d ∷ root-same pt e ∷ root-same s1 e ∷ root-same s2 e ∷ list_same e ∷ []
    used-to p y (is_listed {j = j}) u = (
      omega (arith, u.0, threes-same),
      ap (Geometry.page_of b) (sym (list-words (2 + 2 * j) (list-fits j u.0))) ∙ u.1,
    )

  -- ---- what B sees in m it sees in n

  pub within-to : {d : ℕ} → Within b m B d → Within b n B d
  within-to itself = itself
  within-to (below w a) = below (within-to w) (child-to w a)

  pub live₂ : {d : ℕ} → Within b m B d → inv₂.state.role d ≡ desc
  live₂ w = within-live wide B n sound₂ depth₂ (within-to w)

  pub shown-to : {p : ℕ} → Shown b m B p → Shown b n B p
  shown-to (kernel {p = p} w x y z) = kernel w (within-to x) y (used-to x p w y z)
  shown-to (mapped x) = mapped (maps-to itself x)

  -- a partition below B is as deep in both
  pub within_both : {d : ℕ} → Within b m B d → (x : ℕ) × InTree b m x d × InTree b n x d
  within_both itself = (depth, depth₁, depth₂)
  within_both (below w a) = let (x, u, v) = within_both w in (suc x, child u a, child v (child-to w a))
