-- "its first word is document 01's name of a call or its number (1 to 12) in decimal". Assumes nothing.
use Rattle.std.specs.Prelude.{List, [], ◌∷◌, Bool, true, false, cond, ◌&&◌, ℕ, suc, ltb, eqb}
use Rattle.rules.specs.Replay.{known_call}
use Rattle.text.specs.Numbers.{number, is_number}

-- document 01's names in ASCII, in the order of their numbers
abbrev pub create_partition : List ℕ
create_partition = 99 ∷ 114 ∷ 101 ∷ 97 ∷ 116 ∷ 101 ∷ 80 ∷ 97 ∷ 114 ∷ 116 ∷ 105 ∷ 116 ∷ 105 ∷ 111 ∷ 110 ∷ []

abbrev pub delete_partition : List ℕ
delete_partition = 100 ∷ 101 ∷ 108 ∷ 101 ∷ 116 ∷ 101 ∷ 80 ∷ 97 ∷ 114 ∷ 116 ∷ 105 ∷ 116 ∷ 105 ∷ 111 ∷ 110 ∷ []

abbrev pub add_vaddr : List ℕ
add_vaddr = 97 ∷ 100 ∷ 100 ∷ 86 ∷ 65 ∷ 100 ∷ 100 ∷ 114 ∷ []

abbrev pub remove_vaddr : List ℕ
remove_vaddr = 114 ∷ 101 ∷ 109 ∷ 111 ∷ 118 ∷ 101 ∷ 86 ∷ 65 ∷ 100 ∷ 100 ∷ 114 ∷ []

abbrev pub page_count : List ℕ
page_count = 112 ∷ 97 ∷ 103 ∷ 101 ∷ 67 ∷ 111 ∷ 117 ∷ 110 ∷ 116 ∷ []

abbrev pub prepare : List ℕ
prepare = 112 ∷ 114 ∷ 101 ∷ 112 ∷ 97 ∷ 114 ∷ 101 ∷ []

abbrev pub collect : List ℕ
collect = 99 ∷ 111 ∷ 108 ∷ 108 ∷ 101 ∷ 99 ∷ 116 ∷ []

abbrev pub mapped_in_child : List ℕ
mapped_in_child = 109 ∷ 97 ∷ 112 ∷ 112 ∷ 101 ∷ 100 ∷ 73 ∷ 110 ∷ 67 ∷ 104 ∷ 105 ∷ 108 ∷ 100 ∷ []

abbrev pub enter : List ℕ
enter = 101 ∷ 110 ∷ 116 ∷ 101 ∷ 114 ∷ []

abbrev pub leave : List ℕ
leave = 108 ∷ 101 ∷ 97 ∷ 118 ∷ 101 ∷ []

abbrev pub load : List ℕ
load = 108 ∷ 111 ∷ 97 ∷ 100 ∷ []

abbrev pub store : List ℕ
store = 115 ∷ 116 ∷ 111 ∷ 114 ∷ 101 ∷ []

abbrev pub names : List (List ℕ)
names =
    create_partition ∷ delete_partition ∷ add_vaddr ∷ remove_vaddr ∷ page_count ∷ prepare
    ∷ collect ∷ mapped_in_child ∷ enter ∷ leave ∷ load ∷ store ∷ []

-- whether two words are the same bytes
unfoldable pub same : List ℕ → List ℕ → Bool
same [] [] = true
same [] (y ∷ ys) = false
same (x ∷ xs) [] = false
same (x ∷ xs) (y ∷ ys) = eqb x y && same xs ys

-- where w stands among the names, counted from k on; 0 where it is none of them
unfoldable pub place_from : ℕ → List ℕ → List (List ℕ) → ℕ
place_from k w [] = 0
place_from k w (n ∷ ns) = let later = place_from (suc k) w ns in cond (same w n) k later

abbrev pub named : List ℕ → ℕ
named w = place_from 1 w names

-- the number of the call that a word says, by its name or by its number; 0 where it is neither
unfoldable pub call_number : List ℕ → ℕ
call_number w = cond (ltb 0 (named w)) (named w) (cond (is_number w && known_call (number w)) (number w) 0)
