-- No partition of the tree maps a page twice. Assumes nothing.
use mathlib.Core.Path.{◌≡◌, refl, sym, ap, ◌∙◌, subst}
use mathlib.Core.List.{List}
use mathlib.Core.Logic.{◌≢◌}
use Prim.Native.Nat.{ℕ}
use native.Mathlib.Omega.{arith}
use Rattle.walk.specs.Finite.{One}
use Rattle.memory.specs.Geometry.{page_of}
use Rattle.memory.specs.Partition.{mapping, lent, above}
use Rattle.memory.specs.Tree.{Has, Child, InTree, root, child}
use Rattle.memory.specs.Sound.{Sound}
use Rattle.soundness.proofs.Root.{root-place}
use Rattle.soundness.proofs.Whole.{child-far, above-has}

module _ (b : ℕ) (m : List ℕ) (s : Sound b m) where
  -- what d lends at x to its child c, c maps once
  lent-once : {k d v c : ℕ} → InTree b m k d → Child b m d v c → (x : ℕ) → Has b m d x → mapping b m d x ≢ 0 → lent b m d x ≡ v
      → One (λ u. Has b m c u × ((mapping b m c u ≢ 0) × (above b m c u ≡ x)))
  lent-once {k} {d} {v} {c} t a x h n e =
      let (f, g, o) = (s.lending k d t).back x h (n, omega (arith, child-far b m (s.forms k d t).none a, e)) in
      let q : f ≡ c = sym g.page ∙ ap (λ (z : ℕ). page_of b (mapping b m d z)) e ∙ a.page in
      subst (λ (z : ℕ). One (λ u. Has b m z u × ((mapping b m z u ≢ 0) × (above b m z u ≡ x)))) q o

  -- the root's mappings are flat; a child's two mappings of a page have one mapping of the parent above them, which is lent to it once
  pub one_place : {k d : ℕ} → InTree b m k d → (u v : ℕ) → Has b m d u → Has b m d v → mapping b m d u ≢ 0 → mapping b m d v ≢ 0
      → page_of b (mapping b m d u) ≡ page_of b (mapping b m d v) → u ≡ v
  one_place root u v h i n o e = root-place b m s.root_as_formatted u v h i n o e
  one_place (child {k = k} {d = d} {v = w} {c = c} t a) u v h i n o e =
      let p = (s.lending k d t).down w c a u h n in
      let q = (s.lending k d t).down w c a v i o in
      let j = above-has b m s t a u h n in
      let r : above b m c u ≡ above b m c v =
      one_place t (above b m c u) (above b m c v) j (above-has b m s t a v i o) p.mapped q.mapped (sym p.page ∙ e ∙ q.page) in
      let (x, y, one) = lent-once t a (above b m c u) j p.mapped p.names in
      one u (h, (n, refl)) ∙ sym (one v (i, (o, sym r)))
