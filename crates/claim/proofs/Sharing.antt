-- A page mapped in a child is mapped in its parent, and in no other child of that parent. Assumes nothing.
use mathlib.Core.Path.{◌≡◌, sym, ap, ◌∙◌}
use mathlib.Core.List.{List}
use mathlib.Core.Logic.{◌≢◌}
use Prim.Native.Nat.{ℕ}
use Rattle.memory.specs.Geometry.{page_of}
use Rattle.memory.specs.Partition.{mapping, lent, above}
use Rattle.memory.specs.Tree.{Child, InTree}
use Rattle.memory.specs.Sound.{Sound}
use Rattle.soundness.proofs.Whole.{above-has}
use Rattle.claim.specs.Kept.{Maps}
use Rattle.claim.proofs.Places.{one_place}

module _ (b : ℕ) (m : List ℕ) (s : Sound b m) where
  pub vertical : {k d v c : ℕ} → InTree b m k d → Child b m d v c → (p : ℕ) → Maps b m c p → Maps b m d p
  vertical {k} {d} {v} {c} t a p x =
      let q = (s.lending k d t).down v c a x.at x.has x.present in
      record { at = above b m c x.at; has = above-has b m s t a x.at x.has x.present; present = q.mapped; page = sym q.page ∙ x.page }

  -- the parent maps the page at one place, and its shadow 1 word there names one child
  pub siblings : {k d u v c e : ℕ} → InTree b m k d → Child b m d u c → Child b m d v e → c ≢ e → (p : ℕ) → Maps b m c p → Maps b m e p → ⊥
  unfolding vertical
  siblings {k} {d} {u} {v} {c} {e} t f g n p x y =
      let i = vertical t f p x in
      let j = vertical t g p y in
      let q : i.at ≡ j.at = one_place b m s t i.at j.at i.has j.has i.present j.present (i.page ∙ sym j.page) in
      let r : u ≡ v =
      sym ((s.lending k d t).down u c f x.at x.has x.present).names
      ∙ ap (lent b m d) q
      ∙ ((s.lending k d t).down v e g y.at y.has y.present).names in
      n (sym f.page ∙ ap (λ (z : ℕ). page_of b (mapping b m d z)) r ∙ g.page)
