-- "A number is one to ten decimal digits with a value below 2^32": leading zeros are digits too. Assumes nothing.
use Rattle.std.specs.Prelude.{List, [], ◌∷◌, Bool, true, ◌&&◌, ℕ, ◌+◌, ◌-◌, ◌*◌, leb, ltb, length}

-- `0` to `9`
abbrev pub is_digit : ℕ → Bool
is_digit x = leb 48 x && leb x 57

unfoldable pub all_digits : List ℕ → Bool
all_digits [] = true
all_digits (x ∷ xs) = is_digit x && all_digits xs

-- the value of digits that stand behind those of v
unfoldable pub value : ℕ → List ℕ → ℕ
value v [] = v
value v (x ∷ xs) = value (10 * v + (x - 48)) xs

abbrev pub number : List ℕ → ℕ
number w = value 0 w

unfoldable pub is_number : List ℕ → Bool
is_number w = leb 1 (length w) && leb (length w) 10 && all_digits w && ltb (number w) 4294967296

unfoldable pub all_numbers : List (List ℕ) → Bool
all_numbers [] = true
all_numbers (w ∷ ws) = is_number w && all_numbers ws
