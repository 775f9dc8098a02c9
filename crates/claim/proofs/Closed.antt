-- A page that is accessible somewhere in the tree is in hand of one of its partitions, so it is no kernel page. Assumes nothing.
use mathlib.Core.Path.{◌≡◌, refl, ap, ◌∙◌, subst}
use mathlib.Core.List.{List}
use mathlib.Core.Logic.{◌≢◌, inl}
use Prim.Native.Nat.{ℕ, zero, suc, ◌+◌, ◌<◌}
use native.Mathlib.Decide.{ℕ_discrete}
use native.Mathlib.Omega.{arith}
use Rattle.memory.specs.Geometry.{page_of, most_depth}
use Rattle.memory.specs.Entry.{accessible}
use Rattle.memory.specs.Partition.{pages, mapping, lent}
use Rattle.memory.specs.Tree.{Has, Child, InTree, child}
use Rattle.memory.specs.Uses.{Way, in_hand, KernelWay, is_five, is_listed, Use, KernelPage, header, serves}
use Rattle.memory.specs.Sound.{Sound}
use Rattle.soundness.proofs.Whole.{flat, small}

pub not-hand : {w : Way} (v : ℕ) → KernelWay w → w ≢ in_hand v
not-hand v is_five e = let z : ◌≡◌ {A = ℕ} 0 1 = cc in omega arith
not-hand v is_listed e = let z : ◌≡◌ {A = ℕ} 0 1 = cc in omega arith

module _ (b : ℕ) (m : List ℕ) (s : Sound b m) where
  -- page p is in hand
  abbrev Held : ℕ → Type 0
  Held p = (u : Use b m p) × (v : ℕ) × (u.way ≡ in_hand v)

  -- the page that d lends at v, where the child maps it
  record Borrowed (k d v : ℕ) : Type 0 where
    part : ℕ
    at : ℕ
    tree : InTree b m (suc k) part
    has : Has b m part at
    present : mapping b m part at ≢ 0
    page : page_of b (mapping b m part at) ≡ page_of b (mapping b m d v)
    bit : accessible (mapping b m part at) ≡ accessible (mapping b m d v)

  borrowed : {k d : ℕ} → InTree b m k d → (v : ℕ) → Has b m d v → mapping b m d v ≢ 0 → 1 < lent b m d v → Borrowed k d v
  borrowed {k} {d} t v h n l =
      let (c, a, (u, (i, (o, e)), one)) = (s.lending k d t).back v h (n, l) in
      let q = (s.lending k d t).down (lent b m d v) c a u i o in
      record {
        part = c;
        at = u;
        tree = child t a;
        has = i;
        present = o;
        page = q.page ∙ ap (λ (x : ℕ). page_of b (mapping b m d x)) e;
        bit = q.bit ∙ ap (λ (x : ℕ). accessible (mapping b m d x)) e;
      }

  -- a child's descriptor is one of the child's kernel pages
  descriptor-shut : {k d : ℕ} → InTree b m k d → (v : ℕ) → Has b m d v → mapping b m d v ≢ 0 → lent b m d v ≡ 1 → accessible (mapping b m d v) ≡ 0
  descriptor-shut {k} {d} t v h n e =
      let c = page_of b (mapping b m d v) in
      let a : Child b m d v c = record { has = h; present = n; mark = e; page = refl } in
      ((s.kernel k d t).shut v c a v (inl (0, omega arith, ((s.children k d t).right v c a).stands))).1

  -- down by the lent pages; n levels are enough
  held : (n : ℕ) {k d : ℕ} → InTree b m k d → most_depth < k + n → (v : ℕ) → Has b m d v → mapping b m d v ≢ 0 → accessible (mapping b m d v) ≡ 1
      → Held (page_of b (mapping b m d v))
  held zero {k} {d} t l v h o a = absurd (omega (arith, s.depth k d t))
  held (suc n) {k} {d} t l v h o a = elim (ℕ_discrete (lent b m d v) 0) [
    | yes e ↦ (record { depth = k; part = d; way = in_hand v; tree = t; used = (h, o, a, e, refl) }, v, refl)
    | no f ↦ elim (ℕ_discrete (lent b m d v) 1) [
      | yes e ↦ absurd (omega (arith, descriptor-shut t v h o e))
      | no g ↦ let x = borrowed t v h o (omega arith) in subst Held x.page (held n x.tree (omega arith) x.at x.has x.present (x.bit ∙ a))
    ]
  ]

  -- no page has two uses
  kernel-not-held : {p : ℕ} → KernelPage b m p → 0 < p → p < pages b m → Held p → ⊥
  kernel-not-held header l h x = omega arith
  kernel-not-held (serves {p = p} u w) l h (x, v, e) = not-hand v w ((s.uses.one p l h u x).1 ∙ e)

  pub closed : {k d : ℕ} → InTree b m k d → (v : ℕ) → Has b m d v → mapping b m d v ≢ 0 → KernelPage b m (page_of b (mapping b m d v))
      → accessible (mapping b m d v) ≡ 0
  closed {k} {d} t v h n q = elim (ℕ_discrete (accessible (mapping b m d v)) 1) [
    | yes a ↦ absurd (kernel-not-held q (omega (arith, flat b m s t v h n)) (small b m s t v h n) (held (suc most_depth) t (omega arith) v h n a))
    | no f ↦ omega arith
  ]
