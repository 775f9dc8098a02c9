-- Text is bytes. Its lines, and a line's words. Assumes nothing.
use Rattle.std.specs.Prelude.{List, [], ◌∷◌, Bool, true, cond, ◌||◌, ℕ, eqb}

abbrev pub newline : ℕ
newline = 10

abbrev pub hash : ℕ
hash = 35

-- x at the front of the first part
unfoldable pub onto : ℕ → List (List ℕ) → List (List ℕ)
onto x [] = (x ∷ []) ∷ []
onto x (p ∷ ps) = (x ∷ p) ∷ ps

-- "Lines end with a newline; what follows the last newline is a line too unless it is empty."
unfoldable pub lines : List ℕ → List (List ℕ)
lines [] = []
lines (x ∷ xs) = let more = lines xs in cond (eqb x newline) ([] ∷ more) (onto x more)

-- the bytes before the first b, or all where there is none
unfoldable pub before : ℕ → List ℕ → List ℕ
before b [] = []
before b (x ∷ xs) = let more = before b xs in cond (eqb x b) [] (x ∷ more)

-- a space, a tab or a carriage return
abbrev pub blank : ℕ → Bool
blank x = eqb x 32 || eqb x 9 || eqb x 13

-- a word ends before a blank and where nothing follows
unfoldable pub ends : List ℕ → Bool
ends [] = true
ends (x ∷ xs) = blank x

-- the words that blanks separate
unfoldable pub split : List ℕ → List (List ℕ)
split [] = []
split (x ∷ xs) = let more = split xs in cond (blank x) more (cond (ends xs) ((x ∷ []) ∷ more) (onto x more))

-- "A line is read up to the first `#`; its words are separated by spaces, tabs and carriage returns."
abbrev pub words : List ℕ → List (List ℕ)
words l = split (before hash l)
