-- Blocks of eight places of a table, which are passed over where nothing stands in them. Assumes nothing.
use Rattle.std.specs.Prelude.{List, Bool, ◌&&◌, ℕ, ◌+◌, ◌%◌, leb, eqb, take, drop}
use Rattle.walk.specs.Lists.{count}

-- a block begins at i, below n
abbrev pub block_at : ℕ → ℕ → Bool
block_at n i = eqb (i % 8) 0 && leb (i + 8) n

-- how often x stands in the block
abbrev pub in_block : ℕ → List ℕ → ℕ → ℕ
in_block x s i = count x (take 8 (drop i s))

-- a block of s in which x stands k times
abbrev pub block_of : List ℕ → ℕ → ℕ → ℕ → ℕ → Bool
block_of s n i x k = block_at n i && eqb (in_block x s i) k

-- every word is 0
abbrev pub empty_block : List ℕ → ℕ → ℕ → Bool
empty_block s n i = block_of s n i 0 8

-- no word of a shadow 1 table is 1
abbrev pub childless_block : List ℕ → ℕ → ℕ → Bool
childless_block s n i = block_of s n i 1 0
