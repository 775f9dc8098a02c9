-- "five addresses taken as one group". Assumes nothing.
use Rattle.std.specs.Prelude.{List, [], ◌∷◌, ◌++◌, ℕ, get_or}
use Rattle.rules.specs.Call.{Call, create_partition}
use Rattle.rules.specs.Moves.{pairs}

-- the call with these five
abbrev pub creating : List ℕ → Call
creating five = create_partition (get_or five 0 0) (get_or five 1 0) (get_or five 2 0) (get_or five 3 0) (get_or five 4 0)

-- "pairs of virtual address in the parent and physical address ..; then 0 and the parent's descriptor address": of a new child of d, at address own
unfoldable pub descriptor : ℕ → List ℕ → ℕ → ℕ → List ℕ → List ℕ
descriptor b m d own five = pairs b m d five ++ (0 ∷ own ∷ [])
