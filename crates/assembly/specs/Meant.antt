-- What a text means: a number of pages and calls. Assumes nothing.
use Rattle.std.specs.Prelude.{List, [], ◌∷◌, ◌++◌, cond, ℕ, eqb, length, get_or}
use Rattle.rules.specs.Call.{Call}
use Rattle.rules.specs.Replay.{call_of}
use Rattle.text.specs.Text.{words}
use Rattle.text.specs.Numbers.{number}
use Rattle.text.specs.Names.{call_number}
use Rattle.text.specs.Lines.{pages_of}

-- a line's call, if it has words: its first word is the call, its further words are the arguments
unfoldable pub call_on : List (List ℕ) → List Call
call_on [] = []
call_on (w ∷ ws) = call_of (call_number w) (λ j. number (get_or ws j [])) ∷ []

unfoldable pub calls_on : List (List ℕ) → List Call
calls_on [] = []
calls_on (l ∷ ls) = call_on (words l) ++ calls_on ls

-- N, which the first line that has words says, and the calls of the lines behind it
unfoldable pub pages_meant : List (List ℕ) → ℕ
pages_meant [] = 0
pages_meant (l ∷ ls) = let later = pages_meant ls in cond (eqb (length (words l)) 0) later (pages_of (words l))

unfoldable pub calls_meant : List (List ℕ) → List Call
calls_meant [] = []
calls_meant (l ∷ ls) = let later = calls_meant ls in cond (eqb (length (words l)) 0) later (calls_on ls)
