-- The sentences that the cells tell one by one: all but the two that are told from counts. Assumes nothing.
use mathlib.Core.Path.{◌≡◌, sym, ap, ◌∙◌, subst}
use mathlib.Core.List.{List}
use mathlib.Core.Bool.{Bool}
use mathlib.Core.Logic.{◌≢◌, ◌↔◌, inl, inr}
use Prim.Native.Nat.{ℕ, suc, ◌≤◌, ◌<◌}
use Rattle.walk.specs.Lists.{count}
use Rattle.walk.specs.Reflect.{Tells}
use Rattle.walk.specs.Finite.{One, keep, keep_in}
use Rattle.memory.specs.Geometry.{page_of}
use Rattle.memory.specs.Words.{word}
use Rattle.memory.specs.Entry.{accessible}
use Rattle.memory.specs.Partition.{pages, parent, mapping, lent, above}
use Rattle.memory.specs.Tree.{Virtual, Has, Child, InTree, child}
use Rattle.memory.specs.Counts as C
use Rattle.memory.specs.Sound as S
use Rattle.memory.proofs.Geometry.{page-address}
use Rattle.soundness.proofs.Places.{tabled-is}
use Rattle.soundness.proofs.Agree.{Shut}
use Rattle.soundness.proofs.Whole.{Spot, mapped-has}

module _ (b : ℕ) (m : List ℕ) where
  pub record Local : Type 0 where
    pub header : S.Header b m
    pub root_as_formatted : S.Root b m
    pub forms : (k d : ℕ) → InTree b m k d → S.Forms b m d
    pub children : (k d : ℕ) → InTree b m k d → S.Children b m d
    pub down : {k d v c : ℕ} → InTree b m k d → Child b m d v c → (u : ℕ) → Has b m c u → mapping b m c u ≢ 0 → S.FromParent b m d v c u
    pub named : {k d : ℕ} → InTree b m k d → (v : ℕ) → Has b m d v → S.Lent b m d v → (c : ℕ) × Child b m d (lent b m d v) c
    pub shut : {k d v c : ℕ} → InTree b m k d → Child b m d v c → (x : ℕ) → S.KernelAddress b m c x → Shut b m d x
    pub absent : {k d : ℕ} → InTree b m k d → (v : ℕ) → Has b m d v → mapping b m d v ≡ 0 → (lent b m d v ≡ 0) × (above b m d v ≡ 0)
    pub found : (p : ℕ) → 0 < p → p < pages b m → Spot b m p
    pub same : (p : ℕ) (x y : Spot b m p) → (x.part ≡ y.part) × (x.at ≡ y.at)

  -- c maps at u the page that its parent lends it at x
  abbrev pub MapsFrom : ℕ → ℕ → ℕ → Type 0
  MapsFrom c x u = Has b m c u × ((mapping b m c u ≢ 0) × (above b m c u ≡ x))

  -- the two that are told from counts
  abbrev pub Back : ℕ → Type 0
  Back d = (x : ℕ) → Has b m d x → S.Lent b m d x → (c : ℕ) × Child b m d (lent b m d x) c × One (MapsFrom c x)

  abbrev pub Others : ℕ → Type 0
  Others d = (x : ℕ) → Has b m d x → mapping b m d x ≢ 0 → lent b m d x ≤ 1 → accessible (mapping b m d x) ≡ 0
      → (v : ℕ) × (c : ℕ) × Child b m d v c × S.KernelAddress b m c x

  -- the addresses of d's tables at which a test passes
  pub kept : (d : ℕ) {f : ℕ → Bool} {P : ℕ → Type 0} → ((x : ℕ) → Tells (f x) (P x)) → (x : ℕ) → (0 < count x (keep f (C.tabled b m d))) ↔ (Has b m d x × P x)
  kept d {f} tells x = (
    (λ h. let (a, e) = (keep_in f x (C.tabled b m d)).0 h in ((tabled-is b m d x).0 a, (tells x).0 e)),
    (λ (a, p). (keep_in f x (C.tabled b m d)).1 ((tabled-is b m d x).1 a, (tells x).1 p)),
  )

  -- a child's words name its parent and its place there
  pub placed : {d v c : ℕ} → S.ChildRight b m d v c → (P : ℕ → ℕ → Type 0) → P (parent b m c) (word b m c 0) ↔ P d v
  placed {d} {v} {c} r P =
      let e : parent b m c ≡ d = ap (page_of b) r.parent ∙ page-address b d in
      (λ p. subst (P d) r.stands (subst (λ (x : ℕ). P x (word b m c 0)) e p), λ p. subst (λ (x : ℕ). P x (word b m c 0)) (sym e) (subst (P d) (sym r.stands) p))

  module _ (s : Local) where
    pub above-has : {k d v c : ℕ} → InTree b m k d → Child b m d v c → (u : ℕ) → Has b m c u → mapping b m c u ≢ 0 → Has b m d (above b m c u)
    above-has {k} {d} {v} {c} t a u h n = mapped-has b m d (above b m c u) ((s.forms (suc k) c (child t a)).tables u h).shadow2_word (s.down t a u h n).mapped

    -- a child's kernel pages have addresses in its parent
    pub kernel-has : {k d v c : ℕ} → InTree b m k d → Child b m d v c → (x : ℕ) → S.KernelAddress b m c x → Has b m d x
    kernel-has {k} {d} {v} {c} t a x q = mapped-has b m d x (virtual q) (s.shut t a x q).0
      where
        virtual : S.KernelAddress b m c x → Virtual b x
        virtual (inl (j, h, e)) = subst (Virtual b) e ((s.forms (suc k) c (child t a)).descriptor.pairs j h).0
        virtual (inr (j, h, e)) = subst (Virtual b) e ((s.forms (suc k) c (child t a)).list.pairs j h).0
