-- The tree of the sentences is the tree of the walk; current's test; what the marks tell. Assumes nothing.
use mathlib.Core.Path.{◌≡◌, refl, sym, ap, ◌∙◌, subst}
use mathlib.Core.List.{List}
use mathlib.Core.Bool.{true, false≢true}
use mathlib.Core.Option.{Option, none, some}
use mathlib.Core.Logic.{◌≢◌, ◌↔◌, ◌⊎◌, inl, inr}
use Prim.Native.Nat.{ℕ, zero, suc, ◌+◌, ◌-◌, ◌≤◌, ◌<◌}
use native.Mathlib.Omega.{arith}
use lib.ListN.{get_or}
use Rattle.walk.specs.Lists.{count}
use Rattle.walk.specs.Marks.{Seen}
use Rattle.walk.specs.Tree as Tr
use Rattle.walk.specs.Tree.{top, under}
use Rattle.walk.specs.Walk as W
use Rattle.memory.specs.Geometry.{page_of}
use Rattle.memory.specs.Words.{word}
use Rattle.memory.specs.Partition.{pages, parent, table_for, mapping, lent}
use Rattle.walk.specs.Reflect.{Tells, via, eq?, both, either, isn't}
use Rattle.walk.specs.Finite.{from, from_in, in_from, all?, keep, keep_in, keep-once, image, image_in, in_image, image-once}
use Rattle.memory.specs.Sound as S
use Rattle.memory.specs.Tree.{Virtual, Child, InTree, root, child}
use Rattle.memory.specs.Counts as C
use Rattle.soundness.specs.Test as T
use Rattle.soundness.proofs.Places.{tabled-is, tabled-once}
use Rattle.memory.proofs.Geometry.{page-address}
use Rattle.soundness.proofs.Agree.{virtual?, child_at?, child-is, child-page}

module _ (b : ℕ) (m : List ℕ) where
  -- a child stands at one of the places that the walk takes its children from
  pub kept-is : (d v : ℕ) → (0 < count v (keep (C.child_at b m d) (C.tabled b m d))) ↔ Child b m d v (C.child_of b m d v)
  kept-is d v = (
    (λ h. let (a, e) = (keep_in (C.child_at b m d) v (C.tabled b m d)).0 h in child-is b m d v ((tabled-is b m d v).0 a) ((child_at? b m d v).0 e)),
    (λ k. (keep_in (C.child_at b m d) v (C.tabled b m d)).1 ((tabled-is b m d v).1 k.has, (child_at? b m d v).1 (k.present, k.mark))),
  )

  pub kids_to : (d c : ℕ) → 0 < count c (C.children b m d) → (v : ℕ) × Child b m d v c
  unfolding C.children
  kids_to d c h =
      let (v, a, e) = image_in (C.child_of b m d) c (keep (C.child_at b m d) (C.tabled b m d)) h in
      (v, subst (Child b m d v) e ((kept-is d v).0 a))

  pub to_kids : (d v c : ℕ) → Child b m d v c → 0 < count c (C.children b m d)
  unfolding C.children
  to_kids d v c k =
      let e = child-page b m k in
      subst (λ (x : ℕ). 0 < count x (image (C.child_of b m d) (keep (C.child_at b m d) (C.tabled b m d)))) e
      (in_image (C.child_of b m d) v (keep (C.child_at b m d) (C.tabled b m d)) ((kept-is d v).1 (subst (Child b m d v) (sym e) k)))

  -- a child that knows its place is listed once
  pub kids_once : (d c : ℕ) → ((v : ℕ) → Child b m d v c → word b m c 0 ≡ v) → count c (C.children b m d) ≤ 1
  unfolding C.children
  kids_once d c h = image-once (C.child_of b m d) c (keep (C.child_at b m d) (C.tabled b m d)) (λ v. keep-once (C.child_at b m d) v (C.tabled b m d) (tabled-once b m d v))
      (λ u v p q e f. sym (h u (subst (Child b m d u) e ((kept-is d u).0 p))) ∙ h v (subst (Child b m d v) f ((kept-is d v).0 q)))

  pub tree-to : {k d : ℕ} → InTree b m k d → Tr.InTree (C.children b m) 1 k d
  tree-to root = top
  tree-to (child {k = k} {d = d} {v = v} {c = c} t h) = under (tree-to t) (to_kids d v c h)

  pub to-tree : {k d : ℕ} → Tr.InTree (C.children b m) 1 k d → InTree b m k d
  to-tree top = root
  to-tree (under {k = k} {d = d} {c = c} t h) = let (v, a) = kids_to d c h in child (to-tree t) a

  -- ---- current

  abbrev Step : ℕ → Type 0 → Type 0
  Step c R = (((Virtual b (word b m c 0) × (table_for b m (parent b m c) (word b m c 0) ≢ 0))
      × ((mapping b m (parent b m c) (word b m c 0) ≢ 0) × (lent b m (parent b m c) (word b m c 0) ≡ 1)))
      × (C.child_of b m (parent b m c) (word b m c 0) ≡ c)) × R

  under-step : (n c : ℕ) → Tells (T.under b m (suc n) c) ((c ≡ 1) ⊎ Step c (T.under b m n (parent b m c) ≡ true))
  unfolding T.under T.placed
  under-step n c = either eq? (both (both (both (both (virtual? b) (isn't eq?)) (child_at? b m (parent b m c) (word b m c 0))) eq?) ((λ e. e), λ e. e))

  pub under-tree : (n c : ℕ) → T.under b m n c ≡ true → (k : ℕ) × InTree b m k c
  under-tree zero c e = let q : c ≡ 1 = unfold T.under in (eq?.0 e) in (0, subst (InTree b m 0) (sym q) root)
  under-tree (suc n) c e = go (under-tree n (parent b m c)) ((under-step n c).0 e)
    where
      go : (T.under b m n (parent b m c) ≡ true → (k : ℕ) × InTree b m k (parent b m c)) → (c ≡ 1) ⊎ Step c (T.under b m n (parent b m c) ≡ true) → (k : ℕ) × InTree b m k c
      go ih (inl q) = (0, subst (InTree b m 0) (sym q) root)
      go ih (inr ((((v, t), p), e), r)) =
          let (k, a) = ih r in
          (suc k, child a (subst (Child b m (parent b m c) (word b m c 0)) e (child-is b m (parent b m c) (word b m c 0) (record { virtual = v; table = t }) p)))

  module _ (right : (k d : ℕ) → InTree b m k d → S.Children b m d) where
    pub tree-under : (n : ℕ) {k c : ℕ} → InTree b m k c → k ≤ n → T.under b m n c ≡ true
    tree-under zero root h = unfold T.under in refl
    tree-under (suc n) root h = (under-step n 1).1 (inl refl)
    tree-under zero (child t k) h = absurd (omega arith)
    tree-under (suc n) (child {k = k} {d = d} {v = v} {c = c} t a) h =
        let r = (right k d t).right v c a in
        let p : parent b m c ≡ d = ap (page_of b) r.parent ∙ page-address b d in
        let ih : T.under b m n d ≡ true = tree-under n t (omega arith) in
        let i : Child b m (parent b m c) (word b m c 0) c = subst (λ (x : ℕ). Child b m x (word b m c 0) c) (sym p) (subst (λ (x : ℕ). Child b m d x c) (sym r.stands) a) in
        (under-step n c).1 (inr ((((i.has.virtual, i.has.table), (i.present, i.mark)), child-page b m i), subst (λ (x : ℕ). T.under b m n x ≡ true) (sym p) ih))

  -- ---- the marks

  pub judged? : (o : Option Seen) → Tells (T.judged b m o) ((s : Seen) × (o ≡ some s) × W.Full (pages b m) s)
  unfolding T.judged
  judged? none = ((λ e. absurd (false≢true e)), λ (s, e, f). let z : ◌≡◌ {A = ℕ} 0 1 = cc in absurd (omega arith))
  judged? (some s) =
      via (all? (from (pages b m - 1) 1) (λ p. ((λ h. let r = from_in (pages b m - 1) 1 p h in inside p r.0 r.1), λ (x, y). in_from (pages b m - 1) 1 p x (omega arith))) (λ p. eq?))
      (λ h. (s, refl, λ p x y. h p (x, y)))
      (λ (t, e, f) p (x, y). let q : t ≡ s = cc in subst (λ (u : Seen). get_or u p 0 ≡ 1) q (f p x y))
    where
      inside : (p : ℕ) → 1 ≤ p → p < 1 + (pages b m - 1) → (0 < p) × (p < pages b m)
      inside p x y = (omega arith, omega arith)
