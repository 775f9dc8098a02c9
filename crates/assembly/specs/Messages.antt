-- What is said of a text that can't be read, in ASCII. Assumes nothing.
use Rattle.std.specs.Prelude.{List, [], ◌∷◌, ◌++◌, cond, ℕ, eqb}
use Rattle.rules.specs.Replay.{decimal}
use Rattle.text.specs.Text.{newline}
use Rattle.assembly.specs.Assembled.{Result, written, unread, too_long}

-- "N is not one number from 16 to 256"
abbrev pub no_pages : List ℕ
no_pages =
    78 ∷ 32 ∷ 105 ∷ 115 ∷ 32 ∷ 110 ∷ 111 ∷ 116 ∷ 32 ∷ 111 ∷ 110 ∷ 101 ∷ 32 ∷ 110 ∷ 117 ∷ 109 ∷ 98 ∷ 101 ∷ 114 ∷ 32 ∷ 102 ∷ 114 ∷ 111 ∷ 109 ∷ 32 ∷ 49 ∷ 54
    ∷ 32 ∷ 116 ∷ 111 ∷ 32 ∷ 50 ∷ 53 ∷ 54 ∷ []

-- "unknown call"
abbrev pub unknown_call : List ℕ
unknown_call = 117 ∷ 110 ∷ 107 ∷ 110 ∷ 111 ∷ 119 ∷ 110 ∷ 32 ∷ 99 ∷ 97 ∷ 108 ∷ 108 ∷ []

-- "too few arguments"
abbrev pub too_few : List ℕ
too_few = 116 ∷ 111 ∷ 111 ∷ 32 ∷ 102 ∷ 101 ∷ 119 ∷ 32 ∷ 97 ∷ 114 ∷ 103 ∷ 117 ∷ 109 ∷ 101 ∷ 110 ∷ 116 ∷ 115 ∷ []

-- "too many arguments"
abbrev pub too_many : List ℕ
too_many = 116 ∷ 111 ∷ 111 ∷ 32 ∷ 109 ∷ 97 ∷ 110 ∷ 121 ∷ 32 ∷ 97 ∷ 114 ∷ 103 ∷ 117 ∷ 109 ∷ 101 ∷ 110 ∷ 116 ∷ 115 ∷ []

-- "not a number below 4294967296"
abbrev pub no_number : List ℕ
no_number =
    110 ∷ 111 ∷ 116 ∷ 32 ∷ 97 ∷ 32 ∷ 110 ∷ 117 ∷ 109 ∷ 98 ∷ 101 ∷ 114 ∷ 32 ∷ 98 ∷ 101 ∷ 108 ∷ 111 ∷ 119 ∷ 32 ∷ 52 ∷ 50 ∷ 57 ∷ 52 ∷ 57 ∷ 54 ∷ 55 ∷ 50 ∷ 57
    ∷ 54 ∷ []

-- "the script is longer than 4096 bytes"
abbrev pub long_script : List ℕ
long_script =
    116 ∷ 104 ∷ 101 ∷ 32 ∷ 115 ∷ 99 ∷ 114 ∷ 105 ∷ 112 ∷ 116 ∷ 32 ∷ 105 ∷ 115 ∷ 32 ∷ 108 ∷ 111 ∷ 110 ∷ 103 ∷ 101 ∷ 114 ∷ 32 ∷ 116 ∷ 104 ∷ 97 ∷ 110 ∷ 32
    ∷ 52 ∷ 48 ∷ 57 ∷ 54 ∷ 32 ∷ 98 ∷ 121 ∷ 116 ∷ 101 ∷ 115 ∷ []

-- "no N"
abbrev pub no_line : List ℕ
no_line = 110 ∷ 111 ∷ 32 ∷ 78 ∷ []

-- the reasons' texts by their numbers
unfoldable pub because : ℕ → List ℕ
because r =
    cond (eqb r 1) no_pages
    (cond (eqb r 2) unknown_call
    (cond (eqb r 3) too_few
    (cond (eqb r 4) too_many
    (cond (eqb r 5) no_number
    (cond (eqb r 6) long_script
    (cond (eqb r 7) no_line []))))))

-- "line "
abbrev pub at_line : List ℕ
at_line = 108 ∷ 105 ∷ 110 ∷ 101 ∷ 32 ∷ []

-- ": "
abbrev pub colon : List ℕ
colon = 58 ∷ 32 ∷ []

-- "the text is longer than 65536 bytes"
abbrev pub long_text : List ℕ
long_text =
    116 ∷ 104 ∷ 101 ∷ 32 ∷ 116 ∷ 101 ∷ 120 ∷ 116 ∷ 32 ∷ 105 ∷ 115 ∷ 32 ∷ 108 ∷ 111 ∷ 110 ∷ 103 ∷ 101 ∷ 114 ∷ 32 ∷ 116 ∷ 104 ∷ 97 ∷ 110 ∷ 32 ∷ 54 ∷ 53 ∷ 53
    ∷ 51 ∷ 54 ∷ 32 ∷ 98 ∷ 121 ∷ 116 ∷ 101 ∷ 115 ∷ []

-- "Message: `line K: REASON` and a newline."
unfoldable pub message : Result → List ℕ
message (written bytes) = []
message (unread k r) = at_line ++ decimal k ++ colon ++ because r ++ (newline ∷ [])
message too_long = long_text ++ (newline ∷ [])
