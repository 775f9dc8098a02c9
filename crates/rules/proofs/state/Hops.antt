-- The hops from a mapping up to the root: the first one, their partitions and their number, and that after a child's hop come those of its parent. Assumes
-- an index width of 6 or more.
use mathlib.Core.Path.{◌≡◌, refl, sym, ap, ◌∙◌}
use mathlib.Core.List.{List, [], ◌∷◌}
use mathlib.Core.Logic.{◌≢◌}
use Prim.Native.Nat.{ℕ, zero, suc, ◌≤◌, ◌<◌}
use native.Mathlib.Omega.{arith}
use lib.ListN.{length}
use Rattle.memory.specs.Geometry.{address, page_of, most_depth}
use Rattle.memory.specs.Partition.{parent, above}
use Rattle.memory.specs.Tree.{Virtual, Child, InTree, root, child}
use Rattle.memory.specs.Sound.{Sound}
use Rattle.rules.proofs.model.Base.{eqd, pick, pick_yes, pick_no}
use Rattle.rules.proofs.model.Words.{addr}
use Rattle.rules.proofs.model.Abs.{Hop, parts, head_v, head_p}
use Rattle.rules.proofs.state.Tree.{parent_is, not_root}
use Rattle.rules.proofs.state.State.{hop, climb, hops, kernel_hops}

module _ (b : ℕ) (m : List ℕ) where
  -- ---- the partitions that a page goes through do not depend on its address

  climb-parts : (n d u v : ℕ) → parts (climb b m n d u) ≡ parts (climb b m n d v)
  unfolding climb pick
  climb-parts zero d u v = refl
  climb-parts (suc n) d u v = go (eqd d 1) _ _ (climb-parts n (parent b m d) (above b m d u) (above b m d v))
    where
      go : (x : Dec (d ≡ 1)) (y z : List Hop) → parts y ≡ parts z → d ∷ parts (pick x [] y) ≡ d ∷ parts (pick x [] z)
      go (yes e) y z h = refl
      go (no e) y z h = ap (λ (l : List ℕ). d ∷ l) h

  pub hops-parts : (d u v : ℕ) → parts (hops b m d u) ≡ parts (hops b m d v)
  unfolding hops
  hops-parts d u v = climb-parts _ d u v

  -- ---- the first hop

  pub hops-first : (d v : ℕ) → (rest : List Hop) × (hops b m d v ≡ hop b m d v ∷ rest)
  unfolding hops climb
  hops-first d v = (_, refl)

  pub hops-address : (d v : ℕ) → head_v (hops b m d v) ≡ page_of b v
  unfolding hops climb
  hops-address d v = refl

  pub hops-virtual : (d v : ℕ) (hs : List Hop) → hs ≡ hops b m d v → Virtual b v → addr b (head_v hs) ≡ v
  unfolding addr
  hops-virtual d v hs e h = ap (λ (x : List Hop). address b (head_v x)) e ∙ ap (address b) (hops-address d v) ∙ h.0

  pub hops-part : (d v : ℕ) → head_p (hops b m d v) ≡ d
  unfolding hops climb
  hops-part d v = refl

  -- ---- one step up: the root's mapping is the last

  climb-top : (n v : ℕ) → climb b m (suc n) 1 v ≡ hop b m 1 v ∷ []
  unfolding climb
  climb-top n v = ap (λ (x : List Hop). hop b m 1 v ∷ x) (pick_yes (eqd 1 1) [] _ refl)

  climb-on : (n c v : ℕ) → c ≢ 1 → climb b m (suc n) c v ≡ hop b m c v ∷ climb b m n (parent b m c) (above b m c v)
  unfolding climb
  climb-on n c v e = ap (λ (x : List Hop). hop b m c v ∷ x) (pick_no (eqd c 1) [] _ e)

  pub hops-top : (v : ℕ) → hops b m 1 v ≡ hop b m 1 v ∷ []
  unfolding hops
  hops-top v = climb-top _ v

  pub kernel-top : (v : ℕ) → kernel_hops b m 1 v ≡ []
  unfolding kernel_hops
  kernel-top v = pick_yes (eqd 1 1) [] _ refl

module _ {b : ℕ} (wide : 6 ≤ b) (m : List ℕ) (s : Sound b m) where
  -- ---- the hops of a child are its own and then those of its parent

  climb-child : {k d w c : ℕ} → InTree b m k d → Child b m d w c → (n v : ℕ) → climb b m (suc n) c v ≡ hop b m c v ∷ climb b m n d (above b m c v)
  climb-child {c = c} t a n v =
      climb-on b m n c v (not_root wide m s t a) ∙ ap (λ (x : ℕ). hop b m c v ∷ climb b m n x (above b m c v)) (parent_is wide m s t a)

  -- once the steps allowed are more than the depth, their number does not matter
  climb-enough : {k d : ℕ} → InTree b m k d → (n j v : ℕ) → k < n → k < j → climb b m n d v ≡ climb b m j d v
  climb-enough t zero j v l h = absurd (omega arith)
  climb-enough t (suc n) zero v l h = absurd (omega arith)
  climb-enough root (suc n) (suc j) v l h = climb-top b m n v ∙ sym (climb-top b m j v)
  climb-enough (child {c = c} t a) (suc n) (suc j) v l h =
      let e = climb-enough t n j (above b m c v) (omega arith) (omega arith) in
      climb-child t a n v ∙ ap (λ (x : List Hop). hop b m c v ∷ x) e ∙ sym (climb-child t a j v)

  pub hops-child : {k d w c : ℕ} → InTree b m k d → Child b m d w c → (v : ℕ) → hops b m c v ≡ hop b m c v ∷ hops b m d (above b m c v)
  unfolding hops
  hops-child {k} {d} {w} {c} t a v =
      let h : suc k ≤ most_depth = s.depth (suc k) c (child t a) in
      let e = climb-enough t most_depth (suc most_depth) (above b m c v) h (omega arith) in
      climb-child t a most_depth v ∙ ap (λ (x : List Hop). hop b m c v ∷ x) e

  pub kernel-child : {k d w c : ℕ} → InTree b m k d → Child b m d w c → (v : ℕ) → kernel_hops b m c v ≡ hops b m d v
  unfolding kernel_hops
  kernel-child {c = c} t a v = pick_no (eqd c 1) [] _ (not_root wide m s t a) ∙ ap (λ (x : ℕ). hops b m x v) (parent_is wide m s t a)

  pub length-hops : {k d : ℕ} → InTree b m k d → (v : ℕ) → length (hops b m d v) ≡ suc k
  length-hops root v = ap length (hops-top b m v)
  length-hops (child {c = c} t a) v = ap length (hops-child t a v) ∙ ap suc (length-hops t (above b m c v))
