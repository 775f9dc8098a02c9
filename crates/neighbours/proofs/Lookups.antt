-- What the caller looks up is the same in both memories: its own tables and its children's, the pages that it maps, how deep it is. So every call is
-- refused or answered alike, and writes the same words. Assumes an index width of 6 or more.
use mathlib.Core.Path.{◌≡◌, refl, sym, ap, ◌∙◌, subst}
use mathlib.Core.List.{List, [], ◌∷◌}
use mathlib.Core.Logic.{◌≢◌, inr}
use mathlib.Core.Bool.{false}
use Prim.Native.Nat.{ℕ, zero, suc, ◌+◌, ◌*◌, ◌≤◌, ◌<◌}
use native.Mathlib.Omega.{arith}
use borrow.Author.Tests.{eq-eqb, ne_eqb}
use lib.ListN.{length}
use lib.Seq.{ext_get_or}
use Rattle.walk.specs.Finite.{any}
use Rattle.memory.specs.Geometry
use Rattle.memory.specs.Words as Mem
use Rattle.memory.specs.Partition.{current, parent, shadow1, list, threes, table_for, mapping, lent, above}
use Rattle.memory.specs.Tree.{Virtual, Has, Child, InTree, root, child}
use Rattle.memory.specs.Sound.{Sound}
use Rattle.memory.proofs.Geometry.{directory_index-lt}
use Rattle.memory.proofs.Tables.{table_word-absent}
use Rattle.memory.proofs.Widths.{words-least}
use Rattle.soundness.proofs.Root.{root-parent}
use Rattle.soundness.proofs.Whole.{part-inside}
use Rattle.rules.specs.Moves.{depth}
use Rattle.rules.specs.Conditions.{damaged, bad_address, bad_page}
use Rattle.rules.specs.Conditions
use Rattle.rules.specs.Reads.{SameTables, SameChild, SameRead}
use Rattle.rules.proofs.model.Words.{W, word, idx, page_of}
use Rattle.rules.proofs.model.Abs.{Kind, pt}
use Rattle.rules.proofs.model.Read.{root_page, table_at, table_page}
use Rattle.rules.proofs.model.Names.{PageAddress, good-page}
use Rattle.rules.proofs.model.Inv.{Inv, pages-is}
use Rattle.rules.proofs.sound.Words.{virtual-fits, virtual-addr}
use Rattle.rules.proofs.sound.All.{inv-whole}
use Rattle.rules.proofs.steps.Checks.{Each, false_or}
use Rattle.rules.proofs.steps.CollectEffect.{page-size, page-word}
use Rattle.rules.proofs.steps.ReadRows.{below_end}
use Rattle.rules.proofs.state.Tree.{room}
use Rattle.rules.proofs.state.Tree as Tree
use Rattle.rules.proofs.state.Represented.{sound-inv}
use Rattle.neighbours.specs.Neighbours.{Within, below, Shown}
use Rattle.neighbours.proofs.Twin.{Twin, inv₁, inv₂, within_both, shown-fits, part-shown, list-shown, compared_same, forms₁, root-same}
use Rattle.neighbours.proofs.Slots.{mapped-shown, same-slots}
use Rattle.neighbours.proofs.Twin.{parent-same, list_same, list-words, threes-same, table-shown, table_for-same, mapping-same, lent_same, above_same}

-- ---- addresses that have passed

module _ {b : ℕ} (wide : 6 ≤ b) where
  fits : (v : ℕ) → v < Geometry.address_end b → idx b (page_of b v) < W b
  unfolding idx page_of W
  fits v l = directory_index-lt b v l

  pub word_fits : (v : ℕ) → bad_address b 4 v ≡ false → idx b (page_of b v) < W b
  word_fits v e = fits v (below_end b 4 v e)

  pub at-virtual : {v : ℕ} → PageAddress b v → Virtual b v
  at-virtual {v} x = subst (Virtual b) x.is (virtual-addr wide (page_of b v) x.fits)

  pub at_place : {v : ℕ} → PageAddress b v → Geometry.directory_index b (Geometry.page_of b v) < W b
  unfolding idx page_of
  at_place x = x.fits

  pub good-virtual : (v : ℕ) → bad_page b v ≡ false → Virtual b v
  good-virtual v e = at-virtual (good-page b v e)

  pub good_virtuals : (vs : List ℕ) → any (bad_page b) vs ≡ false → Each (Virtual b) vs
  good_virtuals [] e = tt
  good_virtuals (v ∷ vs) e = let (g, gs) = false_or (bad_page b v) (any (bad_page b) vs) e in (good-virtual v g, good_virtuals vs gs)

-- ---- one memory

module _ {b : ℕ} (wide : 6 ≤ b) {m : List ℕ} (s : Sound b m) where
  whole : damaged b m ≡ false
  whole = inv-whole wide m (sound-inv wide m s)

  -- a shadow 1 word 1 is a child
  child-at : {k d : ℕ} → InTree b m k d → (v : ℕ) → Virtual b v → lent b m d v ≡ 1 → Child b m d v (Geometry.page_of b (mapping b m d v))
  child-at {k} {d} t v h e =
      let x : Has b m d v = record { virtual = h; table = table } in
      record { has = x; present = (s.children k d t).leads v x e; mark = e; page = refl }
    where
      table : table_for b m d v ≢ 0
      table z =
          let u : ℕ = Geometry.page_of b v in
          let y = (((s.forms k d t).directory (Geometry.directory_index b u) (directory_index-lt b v h.1)).absent z).0 in
          omega (arith, sym (table_word-absent b m (shadow1 b m d) u y) ∙ e)

  -- how deep a partition is, counted up to n
  depth_is : (n : ℕ) {k d : ℕ} → InTree b m k d → k ≤ n → depth b n m d ≡ k
  unfolding depth
  depth_is zero {k} t l = omega arith
  depth_is (suc n) root l = rw (eq-eqb (parent b m 1) 0 (root-parent b m s.root_as_formatted (room wide))) refl
  depth_is (suc n) (child {k = k} {d = d} {c = c} t a) l =
      let e = Tree.parent_is wide m s t a in
      let z : parent b m c ≢ 0 = λ y. omega (arith, (part-inside b m s t).0, sym e ∙ y) in
      rw (ne_eqb (parent b m c) 0 z) (omega (arith, ap (depth b n m) e, depth_is n t (omega arith)))

-- ---- both

module _ {b B : ℕ} {m n : List ℕ} (t : Twin b B m n) where
  open t use {wide, sound₁, sound₂, count, same, inside, depth₁}

  -- the caller
  abbrev c : ℕ
  c = current b m

  abbrev c' : ℕ
  c' = current b n

  -- a page that B sees is the same, word by word
  page-same : {q : ℕ} → Shown b m B q → Mem.page b m q ≡ Mem.page b n q
  page-same {q} x =
      let i : Inv b m = inv₁ t in
      let j : Inv b n = inv₂ t in
      let f = shown-fits wide B m sound₁ depth₁ x in
      let l₁ : length (Mem.page b m q) ≡ W b = page-size b i.N m q i.words.sized (omega (arith, f, pages-is wide m i)) in
      let l₂ : length (Mem.page b n q) ≡ W b = page-size b j.N n q j.words.sized (omega (arith, f, pages-is wide n j, count)) in
      ext_get_or 0 (Mem.page b m q) (Mem.page b n q) (l₁ ∙ sym l₂) (λ y h.
      let g : y < W b = omega (arith, l₁) in
      page-word b m q y g ∙ compared_same t q y (inr x) g ∙ sym (page-word b n q y g))

  -- ---- the caller

  module _ (v : ℕ) (f : idx b (page_of b v) < W b) where
    pub cur-mapping : mapping b m c v ≡ mapping b n c' v
    cur-mapping = mapping-same t inside v f ∙ ap (λ (d : ℕ). mapping b n d v) same

    pub child-same : Conditions.child b m v ≡ Conditions.child b n v
    child-same = ap (Geometry.page_of b) cur-mapping

    -- a page that it maps is seen
    cur-shown : mapping b m c v ≢ 0 → Shown b m B (Geometry.page_of b (mapping b m c v))
    cur-shown z = mapped-shown t inside v f z

    cur-word : mapping b m c v ≢ 0 → (i : ℕ) → i < W b
        → word b m (Geometry.page_of b (mapping b m c v)) i ≡ word b n (Geometry.page_of b (mapping b n c' v)) i
    cur-word z i l = compared_same t _ i (inr (cur-shown z)) l ∙ ap (λ (w : ℕ). word b n (Geometry.page_of b w) i) cur-mapping

  depth_same : depth b Geometry.most_depth m c ≡ depth b Geometry.most_depth n c'
  depth_same =
      let (x, u, v) = within_both t inside in
      let v' : InTree b n x c' = subst (InTree b n x) same v in
      depth_is wide sound₁ Geometry.most_depth u (sound₁.depth x c u) ∙ sym (depth_is wide sound₂ Geometry.most_depth v' (sound₂.depth x c' v'))

  pub cur-parent : parent b m c ≡ parent b n c'
  cur-parent = parent-same t inside ∙ ap (parent b n) same

  -- its tables, or those of one below B
  same_tables : {d e : ℕ} → Within b m B d → d ≡ e → SameTables b m n d e
  same_tables w q = record {
    table = λ v l. table_for-same t w v (fits wide v l) ∙ ap (λ (x : ℕ). table_for b n x v) q;
    mapping = λ v l. mapping-same t w v (fits wide v l) ∙ ap (λ (x : ℕ). mapping b n x v) q;
    lent = λ v l. lent_same t w v (fits wide v l) ∙ ap (λ (x : ℕ). lent b n x v) q;
  }

  -- ---- its child k at u

  pub child-is : (u : ℕ) → Virtual b u → lent b m c u ≡ 1 → Child b m c u (Conditions.child b m u)
  child-is u h e = let (x, v) = sound₁.current_in in child-at wide sound₁ v u h e

  module _ {u k : ℕ} (a : Child b m c u k) where
    abbrev k' : ℕ
    k' = Conditions.child b n u

    pub child-within : Within b m B k
    child-within = below inside a

    pub child-there : k ≡ k'
    child-there = sym a.page ∙ child-same u (virtual-fits wide u a.has.virtual)

    pub child-root : (x : Kind) → root_page b m x k ≡ root_page b n x k'
    child-root x = root-same t child-within x ∙ ap (root_page b n x) child-there

    pub child-above : (v : ℕ) → idx b (page_of b v) < W b → above b m k v ≡ above b n k' v
    child-above v f = above_same t child-within v f ∙ ap (λ (x : ℕ). above b n x v) child-there

    pub child-few : threes b m k ≤ 10
    child-few = (forms₁ t child-within).list.few

    pub child-list : list b m k ≡ list b n k'
    child-list = list_same t child-within ∙ ap (list b n) child-there

    pub child-words : (i : ℕ) → i ≤ 1 + 6 * threes b m k → Mem.word b m (list b m k) i ≡ Mem.word b n (list b n k') i
    unfolding W
    child-words i l =
        list-words t child-within i (omega (arith, l, child-few, words-least b wide))
        ∙ ap (λ (x : ℕ). Mem.word b n (list b n x) i) child-there

    -- its descriptor, its list and its page tables, as pages
    pub child-own : Mem.page b m k ≡ Mem.page b n k'
    child-own = page-same (part-shown child-within) ∙ ap (Mem.page b n) child-there

    pub child-listed : Mem.page b m (list b m k) ≡ Mem.page b n (list b n k')
    child-listed = page-same (list-shown child-within) ∙ ap (Mem.page b n) child-list

    child-page : (v : ℕ) → v < Geometry.address_end b → table_for b m k v ≢ 0
        → Mem.page b m (Geometry.page_of b (table_for b m k v)) ≡ Mem.page b n (Geometry.page_of b (table_for b n k' v))
    unfolding table_at table_page root_page page_of
    child-page v l z =
        page-same (table-shown t child-within pt (page_of b v) (fits wide v l) z)
        ∙ ap (λ (w : ℕ). Mem.page b n (Geometry.page_of b w)) ((same_tables child-within child-there).table v l)

    same-child : SameChild b m n k k'
    same-child = record {
      tables = same_tables child-within child-there;
      slots = same-slots t child-within child-there;
      above = λ v l. child-above v (fits wide v l);
      threes = threes-same t child-within ∙ ap (threes b n) child-there;
      list = child-words;
      page = child-page;
    }

  -- ---- all that a call reads

  pub same_read : SameRead b m n
  unfolding word W
  same_read = record {
    damaged = whole wide sound₁ ∙ sym (whole wide sound₂);
    caller = same_tables inside same;
    slots = same-slots t inside same;
    parent = cur-parent;
    depth = depth_same;
    page = λ v l z i h. cur-word v (fits wide v l) z i h;
    children = λ u g e. same-child (child-is u (good-virtual wide u g) e);
  }
