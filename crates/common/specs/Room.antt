-- The numbers of the answers of a sequence, and how many calls there is room for. C are a kernel's calls. Assumes nothing.
use Rattle.std.specs.Prelude.{List, [], ◌∷◌, ◌++◌, cond, ◌&&◌, ℕ, ◌+◌, ◌-◌, leb, length}
use Rattle.common.specs.Sequence.{call_at, end_at, whole, calls_of}

module _ {C : Type 0} where
  -- the numbers of the answers of the calls cs, one answer after the other: reply_of m c are those of one call on memory m, after m c is what it leaves
  module _ (after : List ℕ → C → List ℕ) (reply_of : List ℕ → C → List ℕ) where
    unfoldable pub replies : List ℕ → List C → List ℕ
    replies m [] = []
    replies m (c ∷ cs) = reply_of m c ++ replies (after m c) cs

  -- how many places the answer of a call takes
  module _ (places : C → ℕ) where
    -- how many those of the calls cs take
    unfoldable pub places_all : List C → ℕ
    places_all [] = 0
    places_all (c ∷ cs) = places c + places_all cs

    -- the calls from the first on whose answers fit in r places: the first whose answer does not is not run, and none behind it
    unfoldable pub fitting : ℕ → List C → List C
    fitting r [] = []
    fitting r (c ∷ cs) = let more = fitting (r - places c) cs in cond (leb (places c) r) (c ∷ more) []

  module _ (counts : List ℕ) (most : ℕ) (numbered : ℕ → (ℕ → ℕ) → C) (places : C → ℕ) where
    -- where the words of the call at word i end, or 0 where no whole call stands there or its answer does not fit in r places
    abbrev pub next_at : List ℕ → ℕ → ℕ → ℕ
    next_at ws i r = cond (whole counts most ws i && leb (places (call_at numbered ws i)) r) (end_at counts ws i) 0

    -- the calls that words ws stand for, as many as out has room for answers
    abbrev pub executed : List ℕ → List ℕ → List C
    executed ws out = fitting places (length out) (calls_of counts most numbered ws)
