-- The memory is a list of words. Reading past the end gives 0 and writing there does nothing, so that every operation keeps the length. Assumes nothing.
use Rattle.std.specs.Prelude.{List, [], ◌∷◌, ℕ, zero, suc, ◌+◌, ◌*◌, get_or, set, take, drop, replicate}
pub use Rattle.common.specs.Words.{overwrite}
use Rattle.memory.specs.Geometry.{page_words}

-- f at i, i + 1, .., n numbers in all
unfoldable pub tabulate : ℕ → ℕ → (ℕ → ℕ) → List ℕ
tabulate i zero f = []
tabulate i (suc n) f = let h = f i in let t = tabulate (suc i) n f in h ∷ t

module _ (b : ℕ) where
  -- "page k is words 64k to 64k+63": where page p starts, and where its word i stands
  abbrev pub start : ℕ → ℕ
  start p = p * page_words b

  abbrev pub index : ℕ → ℕ → ℕ
  index p i = start p + i

  abbrev pub word : List ℕ → ℕ → ℕ → ℕ
  word m p i = get_or m (index p i) 0

  abbrev pub put : List ℕ → ℕ → ℕ → ℕ → List ℕ
  put m p i x = set m (index p i) x

  -- the words of page p
  abbrev pub page : List ℕ → ℕ → List ℕ
  page m p = take (page_words b) (drop (start p) m)

  -- page p with the words ws from its start on
  unfoldable pub fill : List ℕ → ℕ → List ℕ → List ℕ
  fill m p ws = overwrite m (start p) ws

  unfoldable pub wipe : List ℕ → ℕ → List ℕ
  wipe m p = fill m p (replicate (page_words b) 0)
