-- Every page mapped in the tree has a mapping that is not lent. Assumes that a page has room for a list of ten threes.
use mathlib.Core.Path.{◌≡◌, refl, sym, ◌∙◌, subst}
use mathlib.Core.List.{List}
use mathlib.Core.Logic.{◌≢◌, inl, inr}
use Prim.Native.Nat.{ℕ, ◌+◌, ◌*◌, ◌≤◌, ◌<◌}
use native.Mathlib.Omega.{arith}
use Rattle.memory.specs.Geometry.{page_words, page_of, threes_for}
use Rattle.memory.specs.Words.{word}
use Rattle.memory.specs.Partition.{pages, list, mapping, lent, above}
use Rattle.memory.specs.Tree.{Has, Child, InTree, root, child}
use Rattle.memory.specs.Uses.{Way, five, listed, in_hand, UsedBy}
use Rattle.memory.specs.Sound as S
use Rattle.soundness.proofs.Root.{root-flat, root-place, root-five, root-threes, root-listed}
use Rattle.soundness.proofs.Whole.{spot_use}
use Rattle.judging.proofs.Local.{Local, above-has, kernel-has}
use Rattle.judging.proofs.KernelCount.{five-page, listed-page}

module _ (b : ℕ) (m : List ℕ) where
  -- a mapping of page p that is not lent
  pub record Unlent (p : ℕ) : Type 0 where
    pub depth : ℕ
    pub part : ℕ
    pub at : ℕ
    pub tree : InTree b m depth part
    pub has : Has b m part at
    pub present : mapping b m part at ≢ 0
    pub page : page_of b (mapping b m part at) ≡ p
    pub free : lent b m part at ≤ 1

  -- the mapping of d at x comes down to that of e at y, by child and child
  pub data Below : ℕ → ℕ → ℕ → ℕ → Type 0 where
    here : {d x : ℕ} → Below d x d x
    step : {d v c x u e y : ℕ} → Child b m d v c → Has b m c u → mapping b m c u ≢ 0 → above b m c u ≡ x → Below c u e y → Below d x e y

  module _ (s : Local b m) where
    -- up to the root
    pub climb : {k d e y : ℕ} → InTree b m k d → (x : ℕ) → Has b m d x → mapping b m d x ≢ 0 → Below d x e y
        → (z : ℕ) × (Has b m 1 z × ((mapping b m 1 z ≢ 0) × (page_of b (mapping b m 1 z) ≡ page_of b (mapping b m d x)))) × Below 1 z e y
    climb root x h n w = (x, (h, (n, refl)), w)
    climb (child {c = c} t a) x h n w =
        let q = s.down t a x h n in
        let (z, (i, (o, e)), r) = climb t (above b m c x) (above-has b m s t a x h n) q.mapped (step a h n refl w) in
        (z, (i, (o, e ∙ sym q.page)), r)

    -- a page mapped in the tree is a flat page
    flat : {k d : ℕ} → InTree b m k d → (x : ℕ) → Has b m d x → mapping b m d x ≢ 0 → 5 + 3 * threes_for b (pages b m) < page_of b (mapping b m d x)
    flat t x h n = let (z, (i, (o, e)), r) = climb t x h n here in omega (arith, root-flat b m s.root_as_formatted z i o, e)

    module _ (big : 61 ≤ page_words b) where
      -- the kernel page of a child is mapped in its parent
      kernel-unlent : {k d v c : ℕ} → InTree b m k d → Child b m d v c → (x p : ℕ) → S.KernelAddress b m c x → page_of b (mapping b m d x) ≡ p → Unlent p
      kernel-unlent {k} {d} t a x p q e =
          let (n, _, l) = s.shut t a x q in
          record { depth = k; part = d; at = x; tree = t; has = kernel-has b m s t a x q; present = n; page = e; free = l }

      used-unlent : {k d : ℕ} → InTree b m k d → (w : Way) (p : ℕ) → UsedBy b m d w p → 5 + 3 * threes_for b (pages b m) < p → Unlent p
      used-unlent {k} {d} t (in_hand v) p (h, n, _, l, e) f = record { depth = k; part = d; at = v; tree = t; has = h; present = n; page = e; free = omega arith }
      used-unlent root (five j) p (h, e) f = absurd (omega (arith, root-five b m s.root_as_formatted big j h))
      used-unlent root (listed j) p (h, e) f =
          let l = (s.forms 0 1 root).list in
          absurd (omega (arith, root-listed b m s.root_as_formatted big l j h, root-threes b m s.root_as_formatted big l))
      used-unlent (child {k = k} {d = d} {v = v} {c = c} t a) (five j) p (h, e) f =
          kernel-unlent t a (word b m c (2 * j)) p (inl (j, h, refl)) (five-page b m ((s.children k d t).right v c a) j h ∙ e)
      used-unlent (child {k = k} {d = d} {v = v} {c = c} t a) (listed j) p (h, e) f =
          kernel-unlent t a (word b m (list b m c) (1 + 2 * j)) p (inr (j, h, refl)) (listed-page b m ((s.children k d t).right v c a) j h ∙ e)

      pub unlent_of : {k d : ℕ} → InTree b m k d → (x : ℕ) → Has b m d x → mapping b m d x ≢ 0 → Unlent (page_of b (mapping b m d x))
      unlent_of {k} {d} t x h n =
          let p = page_of b (mapping b m d x) in
          let f = flat t x h n in
          let (u, _, _) = spot_use b m p (s.found p (omega arith) (((s.forms k d t).tables x h).table_word n).1) in
          used-unlent u.tree u.way p u.used f

    -- the root maps a page at one address, so that every mapping of the page comes down from it
    pub root_below : (x : ℕ) → Has b m 1 x → mapping b m 1 x ≢ 0 → {p : ℕ} → page_of b (mapping b m 1 x) ≡ p → (a : Unlent p) → Below 1 x a.part a.at
    root_below x h n q a =
        let (z, (i, (o, e)), r) = climb a.tree a.at a.has a.present here in
        let same : z ≡ x = root-place b m s.root_as_formatted z x i h o n (e ∙ a.page ∙ sym q) in
        subst (λ (y : ℕ). Below 1 y a.part a.at) same r
