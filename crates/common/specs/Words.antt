-- Words written over others. What would lie past the end is dropped, so that the length stays. Assumes nothing.
use Rattle.std.specs.Prelude.{List, [], ◌∷◌, ℕ, zero, suc}

-- the words ws written from index i on
abbrev pub overwrite : List ℕ → ℕ → List ℕ → List ℕ
overwrite [] i ws = []
overwrite (x ∷ xs) zero [] = x ∷ xs
overwrite (x ∷ xs) zero (w ∷ ws) = w ∷ overwrite xs zero ws
overwrite (x ∷ xs) (suc i) ws = x ∷ overwrite xs i ws
