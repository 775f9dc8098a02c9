-- The memory is a list of words. Reading past the end gives 0 and writing there does nothing, so that every operation keeps the length. Assumes nothing.
use Rattle.std.specs.Prelude.{List, [], ◌∷◌, ℕ, get_or, set, replicate}
use Rattle.common.specs.Words.{overwrite}

abbrev pub word : List ℕ → ℕ → ℕ
word m i = get_or m i 0

abbrev pub put : List ℕ → ℕ → ℕ → List ℕ
put m i x = set m i x

-- n words wiped, from index i on
abbrev pub wipe : List ℕ → ℕ → ℕ → List ℕ
wipe m i n = overwrite m i (replicate n 0)

-- f for each element in turn
unfoldable pub over : (List ℕ → ℕ → List ℕ) → List ℕ → List ℕ → List ℕ
over f m [] = m
over f m (x ∷ xs) = over f (f m x) xs
