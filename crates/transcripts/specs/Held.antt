-- The arguments of a record as five words. Assumes nothing.
use Rattle.std.specs.Prelude.{cond, List, [], ◌∷◌, ℕ, ltb}
use Rattle.rules.specs.Bytes.{word_in}
use Rattle.rules.specs.Replay.{argument_count}
use Rattle.script.specs.Walk.{argument_at}

-- word j of the arguments a of call n: 0 where the call has fewer
abbrev pub held_at : ℕ → (ℕ → ℕ) → ℕ → ℕ
held_at n a j = cond (ltb j (argument_count n)) (a j) 0

unfoldable pub held : ℕ → (ℕ → ℕ) → List ℕ
held n a = held_at n a 0 ∷ held_at n a 1 ∷ held_at n a 2 ∷ held_at n a 3 ∷ held_at n a 4 ∷ []

-- the five words of the record that starts at byte i
abbrev pub five_at : List ℕ → ℕ → List ℕ
five_at bs i = held (word_in bs i) (argument_at bs i)
