-- Who goes with a deleted child, as a list with a 0 for each that doesn't. Assumes nothing.
use Rattle.std.specs.Prelude.{◌≡◌, List, Bool, cond, not, ◌&&◌, ℕ, ◌+◌, ◌*◌, ◌<◌, leb, ltb, eqb, length, get_or}
use Rattle.walk.specs.Finite.{from, any, image}
use Rattle.block_memory.specs.Geometry.{header_words}
use Rattle.block_memory.specs.Words.{word}
use Rattle.block_memory.specs.Partition.{start, end}

-- x where f holds at it, else 0
abbrev pub marked : (ℕ → Bool) → ℕ → ℕ
marked f x = cond (f x) x 0

-- a change for each number but 0
abbrev pub passing : (List ℕ → ℕ → List ℕ) → List ℕ → ℕ → List ℕ
passing g m x = cond (eqb x 0) m (g m x)

-- the word t of the table is a partition that stands in the bytes from a up to e
unfoldable pub inside : ℕ → ℕ → ℕ → Bool
inside a e t = not (eqb t 0) && leb a (4 * t) && ltb (4 * t) e

-- each place of out has the partition of its table word if that stands in the bytes from a up to e, else what it had
abbrev pub Marks : List ℕ → ℕ → ℕ → List ℕ → List ℕ → Type 0
Marks m a e before out =
    (j : ℕ) → j < length before → get_or out j 0 ≡ cond (inside a e (word m (header_words + j))) (word m (header_words + j)) (get_or before j 0)

module _ (m : List ℕ) (d : ℕ) (ns : List ℕ) where
  -- the word t of the table is a partition that stands in one of the blocks ns of d
  abbrev pub stands_in : ℕ → Bool
  stands_in t = any (λ n. inside (start m d n) (end m d n) t) ns

  -- of n table words each that does
  abbrev pub gone : ℕ → List ℕ
  gone n = image (λ j. marked stands_in (word m (header_words + j))) (from n 0)
