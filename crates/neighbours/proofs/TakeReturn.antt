-- Take and return in both memories: from the caller up to B the same words are written, and above B none that B sees. create, delete, prepare and collect
-- take and return pages. Assumes an index width of 6 or more.
use mathlib.Core.Path.{◌≡◌, refl, sym, ap, ap₂, ◌∙◌, subst, subst₂}
use mathlib.Core.List.{List, [], ◌∷◌}
use mathlib.Core.Logic.{◌≢◌, inl, inr}
use mathlib.Core.Bool.{Bool, true, false, cond}
use Prim.Native.Nat.{ℕ, zero, suc, ◌<◌}
use native.Mathlib.Omega.{arith}
use Rattle.memory.specs.Geometry
use Rattle.memory.specs.Words as Mem
use Rattle.memory.specs.Partition.{current, parent, mapping, above}
use Rattle.memory.specs.Tree.{Virtual}
use Rattle.rules.specs.Moves.{wiped, mark, take_page, return_page, take_all, return_all}
use Rattle.rules.proofs.Turns.{marking}
use Rattle.rules.proofs.model.Base.{eqd}
use Rattle.rules.proofs.model.Words.{W, wipe, idx, page_of}
use Rattle.rules.proofs.model.Abs.{pt, desc}
use Rattle.rules.proofs.model.Read.{root_page, entry_at}
use Rattle.rules.proofs.sound.Words.{virtual-fits}
use Rattle.rules.proofs.sound.Tree.{in_tree-is}
use Rattle.rules.proofs.steps.Checks.{Each}
use Rattle.neighbours.proofs.Levels.{deep, Low}
use Rattle.neighbours.proofs.Pages.{Up, top, on, up}
use Rattle.neighbours.proofs.Twin.{Twin, inv₁, inv₂, Compared, within-up, shown-far, parent-same, shown-to, above_same, entry-same}
use Rattle.neighbours.proofs.Walk.{Far, mark-top, mark_on, above-virtual, parent-kept, up_kept, mark-far}
use Rattle.neighbours.proofs.Near.{Near, Between, between-caller, both_entry, near-entry, near-wipe, near-mark}

module _ {b B : ℕ} {m n : List ℕ} (t : Twin b B m n) where
  open t use {wide, sound₁, sound₂, inside, depth, depth₁, depth₂}

  -- the caller
  abbrev c : ℕ
  c = current b m

  -- ---- the partition above d in n, for d between the caller and B

  module _ {d : ℕ} (p : Between t d) (z : parent b m d ≢ 0) where
    up₂ : (deep (inv₂ t) d ≡ suc (deep (inv₂ t) (parent b m d))) × ((inv₂ t).state.role (parent b m d) ≡ desc)
    up₂ = subst (λ (x : ℕ). (deep (inv₂ t) d ≡ suc (deep (inv₂ t) x)) × ((inv₂ t).state.role x ≡ desc)) e (go (up wide (inv₂ t) d p.low₂.live))
      where
        e : parent b n d ≡ parent b m d
        e = sym (parent-same t p.in_B)

        go : Up (inv₂ t) d → (deep (inv₂ t) d ≡ suc (deep (inv₂ t) (parent b n d))) × ((inv₂ t).state.role (parent b n d) ≡ desc)
        go (top y) = absurd (z (sym e ∙ y))
        go (on y l h) = (h, l)

    low-up₂ : Low (inv₂ t) (parent b m d)
    low-up₂ = let (e, l) = up₂ in record { live = l; small = omega (arith, e, p.low₂.small) }

  -- ---- the walk above B

  far₁ : (w : ℕ) → Compared t w → Far (inv₁ t) depth w
  far₁ w (inl o) = inl o
  far₁ w (inr o) = inr (shown-far wide B m sound₁ depth₁ o)

  far₂ : (w : ℕ) → Compared t w → Far (inv₂ t) depth w
  far₂ w (inl o) = inl o
  far₂ w (inr o) = inr (shown-far wide B n sound₂ depth₂ (shown-to t o))

  beyond : (k a : ℕ) → a < 2 → {m₁ n₁ : List ℕ} → Near t m₁ n₁ → {e : ℕ} → Low (inv₁ t) e → Low (inv₂ t) e
      → deep (inv₁ t) e < depth → deep (inv₂ t) e < depth → (v : ℕ) → Virtual b v → Near t (mark b k a m₁ e v) (mark b k a n₁ e v)
  beyond k a l near x y f g v h =
      let (kept₁, stays₁) = mark-far wide sound₁ k a depth l near.kept₁ x f v h in
      let (kept₂, stays₂) = mark-far wide sound₂ k a depth l near.kept₂ y g v h in
      record {
        kept₁ = kept₁;
        kept₂ = kept₂;
        same = λ w z o r. stays₁ w z r (far₁ w o) ∙ near.same w z o r ∙ sym (stays₂ w z r (far₂ w o));
      }

  -- ---- the walk from a partition between the caller and B

  near-walk : (k a : ℕ) → a < 2 → {m₁ n₁ : List ℕ} → Near t m₁ n₁ → {d : ℕ} → Between t d → (v : ℕ) → Virtual b v
      → Near t (mark b k a m₁ d v) (mark b k a n₁ d v)
  unfolding mark
  near-walk zero a l near p v h = near
  near-walk (suc k) a l {m₁} {n₁} near {d} p v h =
      go (up wide (inv₁ t) d p.low₁.live) (λ x. near-walk k a l (near-mark t near a l p v h) x (above b m d v))
    where
      m₂ : List ℕ
      m₂ = marking b a m₁ d v

      n₂ : List ℕ
      n₂ = marking b a n₁ d v

      next : Near t m₂ n₂
      next = near-mark t near a l p v h

      -- where the walk goes on
      d' : ℕ
      d' = parent b m d

      v' : ℕ
      v' = above b m d v

      virtual : Virtual b v'
      virtual = above-virtual wide sound₁ d v p.low₁.live h

      -- it is the same place in both
      parent₁ : parent b m₁ d ≡ d'
      parent₁ = parent-kept wide sound₁ near.kept₁ p.low₁

      parent₂ : parent b n₁ d ≡ d'
      parent₂ = parent-kept wide sound₂ near.kept₂ p.low₂ ∙ sym (parent-same t p.in_B)

      above₁ : above b m₁ d v ≡ v'
      above₁ = up_kept wide sound₁ near.kept₁ p.low₁ v h

      above₂ : above b n₁ d v ≡ v'
      above₂ = up_kept wide sound₂ near.kept₂ p.low₂ v h ∙ sym (above_same t p.in_B v (virtual-fits wide v h))

      further : d' ≢ 0 → Near t (mark b k a m₂ d' v') (mark b k a n₂ d' v') → Near t (mark b (suc k) a m₁ d v) (mark b (suc k) a n₁ d v)
      further z x =
          subst₂ (Near t)
          (sym (mark_on b k a m₁ d v (λ y. z (sym parent₁ ∙ y)) ∙ ap₂ (mark b k a m₂) parent₁ above₁))
          (sym (mark_on b k a n₁ d v (λ y. z (sym parent₂ ∙ y)) ∙ ap₂ (mark b k a n₂) parent₂ above₂)) x

      go : Up (inv₁ t) d → (Between t d' → Virtual b v' → Near t (mark b k a m₂ d' v') (mark b k a n₂ d' v'))
          → Near t (mark b (suc k) a m₁ d v) (mark b (suc k) a n₁ d v)
      go (top z) ih = subst₂ (Near t) (sym (mark-top b k a m₁ d v (parent₁ ∙ z))) (sym (mark-top b k a n₁ d v (parent₂ ∙ z))) next
      go (on z live deeper) ih = from (eqd d B)
        where
          low₁ : Low (inv₁ t) d'
          low₁ = record { live = live; small = omega (arith, p.low₁.small) }

          from : Dec (d ≡ B) → Near t (mark b (suc k) a m₁ d v) (mark b (suc k) a n₁ d v)
          from (yes e) =
              let f : deep (inv₁ t) d' < depth = omega (arith, (in_tree-is wide m (inv₁ t) depth B depth₁).1, ap (deep (inv₁ t)) e) in
              let g : deep (inv₂ t) d' < depth = omega (arith, (in_tree-is wide n (inv₂ t) depth B depth₂).1, ap (deep (inv₂ t)) e, (up₂ p z).0) in
              further z (beyond k a l next low₁ (low-up₂ p z) f g v' virtual)
          from (no e) = further z (ih (record { in_B = within-up wide B m sound₁ depth₁ p.in_B e; low₁ = low₁; low₂ = low-up₂ p z }) virtual)

  -- ---- take and return

  pub near-cond : (x y : Bool) → x ≡ y → {m₁ n₁ m₂ n₂ : List ℕ} → Near t m₁ n₁ → Near t m₂ n₂ → Near t (cond x m₁ m₂) (cond y n₁ n₂)
  near-cond x y e {m₁} {n₁} {m₂} {n₂} k l = subst (λ (z : Bool). Near t (cond x m₁ m₂) (cond z n₁ n₂)) e (go x)
    where
      go : (x : Bool) → Near t (cond x m₁ m₂) (cond x n₁ n₂)
      go true = k
      go false = l

  module _ {m₁ n₁ : List ℕ} (near : Near t m₁ n₁) (v : ℕ) (h : Virtual b v) where
    -- the caller's page table word, by which a returned page is wiped or not
    pub mapping-now : mapping b m₁ c v ≡ mapping b n₁ c v
    unfolding entry_at root_page page_of
    mapping-now = near-entry t near pt (between-caller t) (page_of b v) (virtual-fits wide v h)

    -- the page that is taken or returned
    near-clear : Near t (Mem.wipe b m₁ (Geometry.page_of b (mapping b m₁ c v))) (Mem.wipe b n₁ (Geometry.page_of b (mapping b n₁ c v)))
    unfolding entry_at root_page page_of wipe
    near-clear =
        let u : ℕ = page_of b v in
        let f : idx b u < W b = virtual-fits wide v h in
        let p = between-caller t in
        let e₁ = near.kept₁.pages c u p.low₁ f in
        let e₂ = near.kept₂.pages c u p.low₂ f ∙ ap (page_of b) (sym (entry-same t inside pt u f)) in
        subst₂ (λ (x y : ℕ). Near t (wipe b m₁ x) (wipe b n₁ y)) (sym e₁) (sym e₂) (near-wipe t near _ (both_entry t u f))

    near-take : Near t (take_page b m₁ c v) (take_page b n₁ c v)
    unfolding take_page
    near-take = near-walk _ 0 (omega arith) near-clear (between-caller t) v h

    -- k: it was a kernel page
    pub near_return : (k : Bool) → Near t (return_page b k m₁ c v) (return_page b k n₁ c v)
    unfolding return_page
    near_return k =
        let w = near-cond _ _ (ap (wiped k) mapping-now) near-clear near in
        near-cond k k refl (near-walk _ 1 (omega arith) w (between-caller t) v h) w

  pub near-take_all : (vs : List ℕ) {m₁ n₁ : List ℕ} → Near t m₁ n₁ → Each (Virtual b) vs → Near t (take_all b m₁ c vs) (take_all b n₁ c vs)
  near-take_all [] near h = near
  near-take_all (v ∷ vs) near h = near-take_all vs (near-take near v h.0) h.1

  pub near-return_all : (vs : List ℕ) {m₁ n₁ : List ℕ} → Near t m₁ n₁ → Each (Virtual b) vs → Near t (return_all b m₁ c vs) (return_all b n₁ c vs)
  near-return_all [] near h = near
  near-return_all (v ∷ vs) near h = near-return_all vs (near_return near v h.0 true) h.1
