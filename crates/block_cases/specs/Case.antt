-- "A case, whole": its answers, the blocks that are told and the words that it leaves, from the rules alone. Assumes nothing.
use Rattle.std.specs.Prelude.{List, [], ◌∷◌, ◌++◌, Bool, ℕ, replicate}
use Rattle.common.specs.Row.{Answer, ok, no}
use Rattle.common.specs.Expected.{same, same_words, same_lists}
use Rattle.block_memory.specs.Format.{format}
use Rattle.block_rules.specs.Call.{Service, create, delete, prepare, collect, add, remove, cut, merge, enable, read_enabled, find, enter, leave}
use Rattle.block_rules.specs.Calls.{no_block}
use Rattle.block_cases.specs.Reached.{reached, answered, told}

unfoldable pub left : List Service
left =
    cut 8 1096 ∷ create 8 ∷ cut 9 1392 ∷ prepare 8 9 ∷ cut 10 5488 ∷ add 8 10 3 ∷ create 10 ∷ add 8 11 8 ∷ enable 8 8 1 ∷ enter 8 ∷ cut 8 3440 ∷ cut 9 3471
    ∷ read_enabled 0 1 ∷ []

unfoldable pub left_answers : List Answer
left_answers = ok 9 ∷ ok 0 ∷ ok 10 ∷ ok 0 ∷ ok 11 ∷ ok 8 ∷ no 3 ∷ no 4 ∷ ok 1 ∷ ok 0 ∷ ok 9 ∷ no 5 ∷ ok 1 ∷ []

unfoldable pub right : List Service
right =
    leave ∷ remove 8 10 ∷ enter 8 ∷ merge 9 8 ∷ leave ∷ remove 8 10 ∷ collect 8 ∷ delete 8 ∷ merge 8 9 ∷ merge 8 11 ∷ merge 8 10 ∷ merge 8 11 ∷ enable 0 8 1
    ∷ []

unfoldable pub right_answers : List Answer
right_answers = ok 0 ∷ no 7 ∷ ok 0 ∷ ok 8 ∷ ok 0 ∷ ok 0 ∷ ok 9 ∷ ok 0 ∷ ok 8 ∷ no 6 ∷ ok 8 ∷ ok 8 ∷ ok 1 ∷ []

-- "11 0 5000 answers 1: 8 968 16384 7 1 0; 11 0 900 and 10 0 2 answer 0, none; 13: no 12"
unfoldable pub afterwards : List Service
afterwards = find 0 5000 ∷ find 0 900 ∷ read_enabled 0 2 ∷ leave ∷ []

unfoldable pub afterwards_answers : List Answer
afterwards_answers = ok 1 ∷ ok 0 ∷ ok 0 ∷ no 12 ∷ []

-- the blocks that are told on the way, by the last of the left column and by the three afterwards
unfoldable pub blocks : List (List ℕ)
blocks =
    replicate 12 [] ++ ((8 ∷ 1392 ∷ 3440 ∷ 3 ∷ 1 ∷ 0 ∷ []) ∷ replicate 13 [])
    ++ ((8 ∷ 968 ∷ 16384 ∷ 7 ∷ 1 ∷ 0 ∷ []) ∷ no_block ∷ no_block ∷ [] ∷ [])

unfoldable pub answers_hold : Bool
answers_hold = same (answered (left ++ right ++ afterwards)) (left_answers ++ right_answers ++ afterwards_answers)

unfoldable pub blocks_hold : Bool
blocks_hold = same_lists (told (left ++ right ++ afterwards)) blocks

-- "All words are then as format leaves them."
unfoldable pub words_back : Bool
words_back = same_words (reached (left ++ right)) (format 4096)
