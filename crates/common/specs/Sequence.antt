-- A sequence of calls as words: each call is its number and its arguments, one word each. C are a kernel's calls. Assumes nothing.
use Rattle.std.specs.Prelude.{List, [], ◌∷◌, Bool, cond, ◌&&◌, ℕ, zero, suc, ◌+◌, leb, length, get_or}

-- counts are the numbers of arguments, by the call's number
module _ (counts : List ℕ) where
  -- where the words of the call at word i end
  abbrev pub end_at : List ℕ → ℕ → ℕ
  end_at ws i = i + 1 + get_or counts (get_or ws i 0) 0

  -- the number is that of a call, at most `most`, and no argument is cut off
  abbrev pub whole : ℕ → List ℕ → ℕ → Bool
  whole most ws i = leb (get_or ws i 0) most && leb (end_at ws i) (length ws)

module _ {C : Type 0} where
  -- the call whose number is word i; numbered n a is the call of number n with argument j at a j
  abbrev pub call_at : (ℕ → (ℕ → ℕ) → C) → List ℕ → ℕ → C
  call_at numbered ws i = numbered (get_or ws i 0) (λ j. get_or ws (i + (1 + j)) 0)

  module _ (counts : List ℕ) (most : ℕ) (numbered : ℕ → (ℕ → ℕ) → C) where
    -- at most n calls from word i on
    unfoldable pub calls_from : ℕ → List ℕ → ℕ → List C
    calls_from zero ws i = []
    calls_from (suc n) ws i =
        let more = calls_from n ws (end_at counts ws i) in
        cond (whole counts most ws i) (call_at numbered ws i ∷ more) []

    -- the calls that words ws stand for: each takes a word at least
    abbrev pub calls_of : List ℕ → List C
    calls_of ws = calls_from (length ws) ws 0
