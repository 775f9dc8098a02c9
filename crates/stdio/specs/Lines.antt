-- The lines that the programs print.
use Rattle.std.specs.Prelude.{ℕ, ◌/◌, ◌-◌, ◌^◌, nat_eq, nat_lt, List, [], ◌∷◌, ◌++◌, codes, if◌then◌else◌}
use Rattle.std.specs.Fmt.{decimal}
use Rattle.stdio.specs.Hash.{hashed}

-- "ok" and the word, or "no" and the refusal's number
abbrev pub answer_line : ℕ → List ℕ
answer_line x = if nat_lt x (2 ^ 32) then codes "ok " ++ decimal x ++ codes "\n" else codes "no " ++ decimal (x / 2 ^ 32) ++ codes "\n"

-- a line for each answer, up to the first number that is none
unfoldable pub answer_lines : List ℕ → List ℕ
answer_lines [] = []
answer_lines (x ∷ xs) = if nat_eq x (2 ^ 64 - 1) then [] else answer_line x ++ answer_lines xs

-- a part's answers and the hash of the memory that it leaves
abbrev pub part_lines : List ℕ → List ℕ → List ℕ
part_lines answers m = answer_lines answers ++ decimal (hashed m) ++ codes "\n"

-- the refusal's number of a packed answer, or 0
abbrev pub refusal_text : ℕ → List ℕ
refusal_text x = codes " " ++ decimal (x / 2 ^ 32)

-- the verdict of a memory
abbrev pub verdict_line : ℕ → List ℕ
verdict_line x = codes "verdict" ++ refusal_text x ++ codes "\n"
