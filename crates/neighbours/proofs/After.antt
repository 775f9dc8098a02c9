-- After a call: B is as deep as it was, sees the same pages, and the two memories agree on them again, so that the next call starts as the first did.
-- Assumes an index width of 6 or more.
use mathlib.Core.Path.{◌≡◌, refl, sym, ap, ◌∙◌, subst}
use mathlib.Core.List.{List, [], ◌∷◌}
use mathlib.Core.Logic.{◌⊎◌, inl, inr}
use Prim.Native.Nat.{ℕ, ◌+◌, ◌-◌, ◌*◌, ◌/◌, ◌≤◌, ◌<◌}
use native.Mathlib.Omega.{arith}
use lib.ListN.{get_or}
use Rattle.memory.specs.Geometry
use Rattle.memory.specs.Words as Mem
use Rattle.memory.specs.Partition.{current, list, threes, table_for, mapping}
use Rattle.memory.specs.Tree.{Virtual, InTree, root, child}
use Rattle.memory.specs.Uses.{Way, five_pages, KernelWay, is_five, is_listed, UsedBy}
use Rattle.memory.specs.Sound.{Sound}
use Rattle.soundness.proofs.Whole.{flat, part-inside}
use Rattle.rules.proofs.model.Words.{W, word, idx, page_of, page_of-zero, twelve-lt, sixty_one}
use Rattle.rules.proofs.model.Abs.{pt, s1, s2, lst}
use Rattle.rules.proofs.model.Facts.{differ}
use Rattle.rules.proofs.model.Read.{root_page, table_at, entry_at}
use Rattle.rules.proofs.model.Inv.{Inv, cur-is}
use Rattle.rules.proofs.sound.Words.{virtual-fits, list-is}
use Rattle.rules.proofs.sound.Tree.{in_tree-is}
use Rattle.rules.proofs.state.Represented.{sound-inv}
use Rattle.claim.specs.Kept.{Maps}
use Rattle.neighbours.specs.Neighbours.{Within, itself, Shown, kernel, mapped}
use Rattle.neighbours.proofs.Levels.{deep, here, Fixed, Low, Steady, Kept, owner-deep, steady, part-kept, root_kept, table_kept, lent-kept}
use Rattle.neighbours.proofs.Twin.{Twin, inv₁, inv₂, within-deep, shown-split, within-to}
use Rattle.neighbours.proofs.Near.{Near}

-- ---- what m and n say of B's own pages, and of the pages that it maps

module _ (b B : ℕ) where
  record Own (m n : List ℕ) : Type 0 where
    five : five_pages b m B ≡ five_pages b n B
    count : threes b m B ≡ threes b n B
    pairs : (j : ℕ) → j < 3 * threes b m B → Mem.word b m (list b m B) (2 + 2 * j) ≡ Mem.word b n (list b n B) (2 + 2 * j)
    tables : (v : ℕ) → Virtual b v → table_for b m B v ≡ table_for b n B v
    pages : (v : ℕ) → Virtual b v → Geometry.page_of b (mapping b m B v) ≡ Geometry.page_of b (mapping b n B v)

  back : (m n : List ℕ) → Own m n → Own n m
  back m n o = record {
    five = sym o.five;
    count = sym o.count;
    pairs = λ j l. sym (o.pairs j (omega (arith, o.count)));
    tables = λ v h. sym (o.tables v h);
    pages = λ v h. sym (o.pages v h);
  }

-- ---- so B sees in n what it sees in m

module _ {b : ℕ} (wide : 6 ≤ b) (B : ℕ) (m n : List ℕ) (s : Sound b m) {k : ℕ} (t : InTree b m k B) (o : Own b B m n) where
  own-used : (w : Way) → KernelWay w → (p : ℕ) → UsedBy b m B w p → UsedBy b n B w p
  own-used w (is_five {j = j}) p u = (u.0, sym (ap (λ (l : List ℕ). get_or l j 0) o.five) ∙ u.1)
  own-used w (is_listed {j = j}) p u = (omega (arith, u.0, o.count), sym (ap (Geometry.page_of b) (o.pairs j u.0)) ∙ u.1)

  -- a page that B maps is not page 0
  own-maps : {p : ℕ} → Maps b m B p → Maps b n B p
  unfolding page_of
  own-maps {p} x =
      let h = x.has.virtual in
      let q = flat b m s t x.at x.has x.present in
      let e : Geometry.page_of b (mapping b n B x.at) ≡ Geometry.page_of b (mapping b m B x.at) = sym (o.pages x.at h) in
      record {
        at = x.at;
        has = record { virtual = h; table = λ z. x.has.table (o.tables x.at h ∙ z) };
        present = λ z. omega (arith, q, sym e ∙ ap (Geometry.page_of b) z ∙ page_of-zero wide);
        page = e ∙ x.page;
      }

  shown-kept : {p : ℕ} → Shown b m B p → Shown b n B p
  shown-kept {p} x = go (shown-split wide B m s t x)
    where
      go : ((w : Way) × KernelWay w × UsedBy b m B w p) ⊎ Maps b m B p → Shown b n B p
      go (inl (w, y, z)) = kernel w itself y (own-used w y p z)
      go (inr y) = mapped (own-maps y)

-- ---- one memory, after a call

module _ {b : ℕ} (wide : 6 ≤ b) {m : List ℕ} (s : Sound b m) {m₁ : List ℕ} (kept : Kept (sound-inv wide m s) m₁) where
  abbrev i : Inv b m
  i = sound-inv wide m s

  -- the partitions that are not deeper than the caller are still there
  pub tree-kept : {k e : ℕ} → InTree b m k e → k ≤ here i → InTree b m₁ k e
  unfolding table_at entry_at root_page page_of
  tree-kept root l = root
  tree-kept (child {k = k} {d = d} {v = v} {c = c} u a) l =
      let f : idx b (page_of b v) < W b = virtual-fits wide v a.has.virtual in
      let (live, deep_is) = in_tree-is wide m i k d u in
      let low : Low i d = record { live = live; small = omega (arith, deep_is) } in
      let p : Geometry.page_of b (mapping b m₁ d v) ≡ c = kept.pages d (page_of b v) low f ∙ a.page in
      let q = (part-inside b m s (child u a)).0 in
      child (tree-kept u (omega arith)) (record {
        has = record { virtual = a.has.virtual; table = λ z. a.has.table (sym (table_kept wide i kept.unchanged low pt (page_of b v) f) ∙ z) };
        present = λ z. omega (arith, q, sym p ∙ ap (Geometry.page_of b) z ∙ page_of-zero wide);
        mark = lent-kept wide i kept.unchanged low (page_of b v) f (omega (arith, deep_is)) ∙ a.mark;
        page = p;
      })

  module _ {B : ℕ} (low : Low i B) where
    list-kept : list b m₁ B ≡ list b m B
    unfolding word
    list-kept = ap (Geometry.page_of b) (part-kept wide i kept.unchanged low 9 (twelve-lt wide 9 (omega arith)) (λ y. omega arith))

    list-words : (x : ℕ) → x < W b → Mem.word b m₁ (list b m₁ B) x ≡ Mem.word b m (list b m B) x
    unfolding word
    list-words x h =
        let l : ℕ = i.state.lstp B in
        let q : list b m B ≡ l = list-is wide m i B low.live in
        let r : i.state.role l ≡ lst B = i.wf.lst_role B low.live in
        let d : deep i l ≡ deep i B = owner-deep i l B (rw r refl) in
        let z = subst (Fixed (deep i l) (here i)) (sym r) (omega (arith, low.small)) in
        let y : Steady i l x = steady i l x r (λ y. differ y (omega arith)) in
        ap (λ (p : ℕ). word b m₁ p x) (list-kept ∙ q) ∙ kept.unchanged.stays l x h z y ∙ ap (λ (p : ℕ). word b m p x) (sym q)

    threes-kept : threes b m₁ B ≡ threes b m B
    threes-kept = ap (λ (x : ℕ). (x - 1) / 6) (list-words 0 (twelve-lt wide 0 (omega arith)))

    own-kept : {k : ℕ} → InTree b m k B → Own b B m₁ m
    unfolding table_at entry_at root_page page_of
    own-kept {k} u =
        let roots = root_kept wide i kept.unchanged low in
        record {
          five = λ z. B ∷ roots pt z ∷ roots s1 z ∷ roots s2 z ∷ list-kept z ∷ [];
          count = threes-kept;
          pairs = λ j l. list-words (2 + 2 * j) (omega (arith, threes-kept, (s.forms k B u).list.few, sixty_one wide));
          tables = λ v h. table_kept wide i kept.unchanged low pt (page_of b v) (virtual-fits wide v h);
          pages = λ v h. kept.pages B (page_of b v) low (virtual-fits wide v h);
        }

-- ---- both, after a call that leaves them sound

module _ {b B : ℕ} {m n : List ℕ} (t : Twin b B m n) {m₁ n₁ : List ℕ} (near : Near t m₁ n₁) (s₁ : Sound b m₁) (s₂ : Sound b n₁) where
  open t use {wide, sound₁, sound₂, same, inside, depth, depth₁, depth₂}

  -- B is not deeper than the caller
  deep₁ : depth ≤ here (inv₁ t)
  deep₁ = omega (arith, within-deep wide B m sound₁ depth₁ inside, ap (deep (inv₁ t)) (cur-is wide m (inv₁ t)))

  deep₂ : depth ≤ here (inv₂ t)
  deep₂ = omega (arith, within-deep wide B n sound₂ depth₂ (within-to t inside), ap (deep (inv₂ t)) (same ∙ cur-is wide n (inv₂ t)))

  low : Low (inv₁ t) B
  low = let (live, deep_is) = in_tree-is wide m (inv₁ t) depth B depth₁ in record { live = live; small = omega (arith, deep_is, deep₁) }

  there : InTree b m₁ depth B
  there = tree-kept wide sound₁ near.kept₁ depth₁ deep₁

  own : Own b B m₁ m
  own = own-kept wide sound₁ near.kept₁ low depth₁

  shown-back : {p : ℕ} → Shown b m₁ B p → Shown b m B p
  shown-back x = shown-kept wide B m₁ m s₁ there own x

  pub shown-on : {p : ℕ} → Shown b m B p → Shown b m₁ B p
  shown-on x = shown-kept wide B m m₁ sound₁ depth₁ (back b B m₁ m own) x

  pub twin-on : Within b m₁ B (current b m₁) → Twin b B m₁ n₁
  unfolding word W
  twin-on w = record {
    wide = wide;
    sound₁ = s₁;
    sound₂ = s₂;
    count = near.same 0 0 (inl refl) (twelve-lt wide 0 (omega arith));
    same = ap (Geometry.page_of b) (near.same 0 4 (inl refl) (twelve-lt wide 4 (omega arith)));
    inside = w;
    depth = depth;
    depth₁ = there;
    depth₂ = tree-kept wide sound₂ near.kept₂ depth₂ deep₂;
    words = λ p x z h. near.same p z (inr (shown-back x)) h;
  }
