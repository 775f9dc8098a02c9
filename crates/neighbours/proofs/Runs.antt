-- Two runs that are equal call by call have the same words at the end, as the crate pairs says of the kernel's two runs. Assumes nothing.
use mathlib.Core.List.{List, [], ◌∷◌}
use Prim.Native.Nat.{ℕ}
use Rattle.rules.specs.Call.{Call}
use Rattle.rules.specs.Editions.{after, run}
use Rattle.neighbours.specs.Neighbours.{EqualOn, Equal}

module _ (b : ℕ) (S : ℕ → Type 0) where
  pub equal_words : (m n : List ℕ) → EqualOn b S m n → (cs : List Call) → Equal b S m n cs → EqualOn b S (run m cs) (run n cs)
  unfolding run
  equal_words m n w [] e = w
  equal_words m n w (c ∷ cs) (a, x, w₁, e) = equal_words (after m c) (after n c) w₁ cs e
