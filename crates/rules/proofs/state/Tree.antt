-- The tree of a sound memory: each partition but the root has one parent, which its descriptor names, and each has one depth. Assumes an index width of 6
-- or more.
use mathlib.Core.Path.{◌≡◌, refl, sym, ap, ◌∙◌, subst}
use mathlib.Core.List.{List}
use mathlib.Core.Logic.{◌≢◌}
use Prim.Native.Nat.{ℕ, suc, ◌≤◌}
use native.Mathlib.Omega.{arith}
use Rattle.memory.specs.Geometry.{page_words, page_of}
use Rattle.memory.specs.Partition.{parent}
use Rattle.memory.specs.Tree.{Child, InTree, root, child}
use Rattle.memory.specs.Sound.{Sound}
use Rattle.memory.proofs.Geometry.{page-address}
use Rattle.memory.proofs.Widths.{words-least}
use Rattle.soundness.proofs.Root.{root-parent}
use Rattle.soundness.proofs.Whole.{part-inside}

-- a page has room for a list of ten threes
pub room : {b : ℕ} → 6 ≤ b → 61 ≤ page_words b
room {b} wide = omega (arith, words-least b wide)

module _ {b : ℕ} (wide : 6 ≤ b) (m : List ℕ) (s : Sound b m) where
  pub parent_is : {k d v c : ℕ} → InTree b m k d → Child b m d v c → parent b m c ≡ d
  parent_is {k} {d} {v} {c} t a = ap (page_of b) ((s.children k d t).right v c a).parent ∙ page-address b d

  -- the root's descriptor names page 0 as its parent, and no partition is page 0
  pub not_root : {k d v c : ℕ} → InTree b m k d → Child b m d v c → c ≢ 1
  not_root {d = d} {c = c} t a e =
      let z : d ≡ 0 = sym (parent_is t a) ∙ ap (parent b m) e ∙ root-parent b m s.root_as_formatted (room wide) in
      omega (arith, (part-inside b m s t).0)

  -- ---- one depth: both ways down to a partition end with the step from its parent

  root-depth : {k d : ℕ} → InTree b m k d → d ≡ 1 → k ≡ 0
  root-depth root e = refl
  root-depth (child t a) e = absurd (not_root t a e)

  parent-depth : {k c : ℕ} → InTree b m k c → c ≢ 1 → (j : ℕ) × (k ≡ suc j) × InTree b m j (parent b m c)
  parent-depth root n = absurd (n refl)
  parent-depth (child {k = k} t a) n = (k, refl, subst (InTree b m k) (sym (parent_is t a)) t)

  pub one-depth : {k j d : ℕ} → InTree b m k d → InTree b m j d → k ≡ j
  one-depth root u = sym (root-depth u refl)
  one-depth (child t a) u =
      let (j, e, v) = parent-depth u (not_root t a) in
      ap suc (one-depth t (subst (InTree b m j) (parent_is t a) v)) ∙ sym e
