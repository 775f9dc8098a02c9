-- Bytes as little-endian words. A byte past the end counts as 0.
use Rattle.std.specs.Prelude.{ℕ, ◌+◌, ◌*◌, ◌<◌, List, Option, Some, IfSome, drop, slice_index, nat_lt, if◌then◌else◌, ◌≡◌}

-- the first word
abbrev pub first_word : List ℕ → ℕ
first_word bs = slice_index bs 0 + 256 * slice_index bs 1 + 65536 * slice_index bs 2 + 16777216 * slice_index bs 3

-- the first word as a count, and 0 where it is above most
abbrev pub first_count : ℕ → List ℕ → ℕ
first_count most bs = if nat_lt most (first_word bs) then 0 else first_word bs

-- of known bytes the first word was taken
abbrev pub LosesWord : Option (List ℕ) → Option (List ℕ) → Type 0
LosesWord old new = IfSome old (λ bs. new ≡ Some (drop 4 bs))

-- the first n of ws are the words of bs
abbrev pub HoldsWords : ℕ → List ℕ → List ℕ → Type 0
HoldsWords n ws bs = (k : ℕ) → k < n → slice_index ws k ≡ first_word (drop (4 * k) bs)

-- of known bytes n words were taken
abbrev pub LosesWords : ℕ → Option (List ℕ) → Option (List ℕ) → Type 0
LosesWords n old new = IfSome old (λ bs. new ≡ Some (drop (4 * n) bs))

-- of known bytes some number of words was taken
abbrev pub LosesWhole : Option (List ℕ) → Option (List ℕ) → Type 0
LosesWhole old new = (n : ℕ) × LosesWords n old new
