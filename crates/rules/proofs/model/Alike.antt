-- Two states with the same chains and mappings, whose roles tell the same words: their cells are the same. Assumes nothing.
use mathlib.Core.Path.{◌≡◌, refl, ap, ◌∙◌}
use mathlib.Core.Bool.{Bool}
use mathlib.Core.Option.{Option, none, some}
use mathlib.Core.List.{List}
use Prim.Native.Nat.{ℕ}
use Rattle.rules.proofs.model.Words.{addr, pte}
use Rattle.rules.proofs.model.Abs.{Kind, pt, s1, s2, Hop, Abs, head_v, Seen, seek, is_hand, own_word, lent_word, seen_word, page_word, cell}

module _ (b : ℕ) (A B : Abs) (chains : B.chain ≡ A.chain) (maps : B.maps ≡ A.maps)
    (roles : (q : ℕ) → (is_hand (B.role q) ≡ is_hand (A.role q)) × (own_word (B.role q) ≡ own_word (A.role q))) where
  lent_same : (q : ℕ) (x : Option ℕ) → lent_word b B (B.role q) x ≡ lent_word b A (A.role q) x
  unfolding lent_word
  lent_same q none = (roles q).1
  lent_same q (some d) = ap (λ (g : ℕ → List Hop). addr b (head_v (g d))) chains

  seen_same : (k : Kind) (q : ℕ) (x : Option Seen) → seen_word b B k q x ≡ seen_word b A k q x
  unfolding seen_word
  seen_same k q none = refl
  seen_same pt q (some s) = ap (λ (β : Bool). pte b q β s.rt) (roles q).0
  seen_same s1 q (some s) = lent_same q s.below
  seen_same s2 q (some s) = refl

  pub cells_same : (k : Kind) (d v : ℕ) → cell b B k d v ≡ cell b A k d v
  unfolding cell page_word
  cells_same k d v = ap (λ (g : ℕ → ℕ → Option ℕ). page_word b B k d (g d v)) maps ∙ go (A.maps d v)
    where
      go : (x : Option ℕ) → page_word b B k d x ≡ page_word b A k d x
      go none = refl
      go (some q) = ap (λ (g : ℕ → List Hop). seen_word b B k q (seek none d (g q))) chains ∙ seen_same k q (seek none d (A.chain q))
