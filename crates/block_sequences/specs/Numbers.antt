-- The calls by their numbers, those of docs/BLOCKS.md's table of calls, and how many arguments each has. Assumes nothing.
use Rattle.std.specs.Prelude.{List, [], ◌∷◌, Bool, cond, ◌||◌, ℕ, eqb}
use Rattle.block_rules.specs.Call.{Service, Call, format_all, serve, create, delete, prepare, collect, add, remove, cut, merge, enable, read_enabled, find, enter}
use Rattle.block_rules.specs.Call.{leave}

-- "How many arguments each call has is a fixed table" (document 01), by the call's number
abbrev pub counts : List ℕ
counts = 0 ∷ 1 ∷ 1 ∷ 2 ∷ 1 ∷ 3 ∷ 2 ∷ 2 ∷ 2 ∷ 3 ∷ 2 ∷ 2 ∷ 1 ∷ 0 ∷ []

-- the highest number
abbrev pub most : ℕ
most = 13

-- the service of number n (1 to 13) with argument j at a j
unfoldable pub service_of : ℕ → (ℕ → ℕ) → Service
service_of n a =
    cond (eqb n 1) (create (a 0)) (cond (eqb n 2) (delete (a 0)) (cond (eqb n 3) (prepare (a 0) (a 1)) (cond (eqb n 4) (collect (a 0))
    (cond (eqb n 5) (add (a 0) (a 1) (a 2)) (cond (eqb n 6) (remove (a 0) (a 1)) (cond (eqb n 7) (cut (a 0) (a 1)) (cond (eqb n 8) (merge (a 0) (a 1))
    (cond (eqb n 9) (enable (a 0) (a 1) (a 2)) (cond (eqb n 10) (read_enabled (a 0) (a 1)) (cond (eqb n 11) (find (a 0) (a 1))
    (cond (eqb n 12) (enter (a 0)) leave)))))))))))

-- the call of number n (0 to 13)
unfoldable pub numbered : ℕ → (ℕ → ℕ) → Call
numbered n a = cond (eqb n 0) format_all (serve (service_of n a))

-- 10 and 11, read enabled and find: the two calls that tell a block
abbrev pub tells_block : ℕ → Bool
tells_block n = eqb n 10 || eqb n 11
