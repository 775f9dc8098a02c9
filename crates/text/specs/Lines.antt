-- The line that has N, and a call's line, each by its words. Assumes nothing.
use Rattle.std.specs.Prelude.{List, [], ◌∷◌, ◌++◌, cond, not, ◌&&◌, ℕ, ◌+◌, ◌*◌, leb, ltb, eqb, length}
use Rattle.memory.specs.Geometry.{least_pages, most_pages}
use Rattle.rules.specs.Bytes.{little_endian}
use Rattle.rules.specs.Replay.{most_input, argument_count}
use Rattle.text.specs.Numbers.{number, is_number, all_numbers}
use Rattle.text.specs.Names.{call_number}

-- "exactly one word, a number from 16 to 256": N, or 0 where the line is not that
unfoldable pub pages_of : List (List ℕ) → ℕ
pages_of [] = 0
pages_of (w ∷ more) = cond (eqb (length more) 0 && is_number w && leb least_pages (number w) && leb (number w) (most_pages 6)) (number w) 0

-- the numbers as words of the script
unfoldable pub arguments : List (List ℕ) → List ℕ
arguments [] = []
arguments (w ∷ ws) = little_endian (number w) ++ arguments ws

-- a line's record, which is none where there are no words
unfoldable pub record_of : List (List ℕ) → List ℕ
record_of [] = []
record_of (w ∷ ws) = little_endian (call_number w) ++ arguments ws

-- how many calls a line has
unfoldable pub calls_in : List (List ℕ) → ℕ
calls_in [] = 0
calls_in (w ∷ ws) = 1

-- why the line can't be read, or 0: "Order within a call line: 2, then 3 or 4, then 5, then 6." Its record would start at byte `at`.
-- "A line without words is skipped."
unfoldable pub reason : ℕ → List (List ℕ) → ℕ
reason at [] = 0
reason at (w ∷ ws) =
    let most = argument_count (call_number w) in
    cond (eqb (call_number w) 0) 2
    (cond (ltb (length ws) most) 3
    (cond (ltb most (length ws)) 4
    (cond (not (all_numbers ws)) 5
    (cond (ltb most_input (at + 4 + 4 * length ws)) 6 0))))
