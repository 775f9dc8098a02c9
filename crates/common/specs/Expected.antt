-- How a computed statement says what is expected: a table of numbers, and a list of answers. Tests, so that the checker computes them. Assumes nothing.
use Rattle.std.specs.Prelude.{List, [], ◌∷◌, Bool, true, false, ◌&&◌, ℕ, eqb}
use Rattle.common.specs.Row.{Answer, ok, no}

infix 68 ◌is◌
pub data Row : Type 0 where
  ◌is◌ : ℕ → ℕ → Row

abbrev pub all_hold : List Row → Bool
all_hold [] = true
all_hold (x is y ∷ rs) = eqb x y && all_hold rs

unfoldable pub same : List Answer → List Answer → Bool
same [] [] = true
same [] (b ∷ bs) = false
same (a ∷ x) [] = false
same (ok x ∷ xs) (ok y ∷ ys) = let r = same xs ys in eqb x y && r
same (no x ∷ xs) (no y ∷ ys) = let r = same xs ys in eqb x y && r
same (ok x ∷ xs) (no y ∷ ys) = false
same (no x ∷ xs) (ok y ∷ ys) = false

unfoldable pub same_words : List ℕ → List ℕ → Bool
same_words [] [] = true
same_words [] (b ∷ bs) = false
same_words (a ∷ x) [] = false
same_words (a ∷ x) (b ∷ y) = let r = same_words x y in eqb a b && r

unfoldable pub same_lists : List (List ℕ) → List (List ℕ) → Bool
same_lists [] [] = true
same_lists [] (y ∷ ys) = false
same_lists (x ∷ xs) [] = false
same_lists (x ∷ xs) (y ∷ ys) = let r = same_lists xs ys in same_words x y && r
