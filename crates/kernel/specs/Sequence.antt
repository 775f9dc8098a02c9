-- A sequence of calls as words: each call is its number and its arguments, one word each, as the crate common has it for any kernel. Assumes nothing.
use Rattle.std.specs.Prelude.{List, [], ◌∷◌, ◌++◌, Bool, ℕ, ◌+◌, get_or}
use Rattle.common.specs.Sequence
use Rattle.rules.specs.Call.{Call}
use Rattle.rules.specs.Replay.{argument_counts}
pub use Rattle.calls.specs.Numbers.{registers_at}
unfoldable pub use Rattle.calls.specs.Numbers.{context_call, numbered}

-- "How many arguments each call has is a fixed table by number"; format is number 0 and has one, the edition. Document 02's calls are beyond the
-- twelve: 13 notify, 14 dispatch, 15 resume.
abbrev pub counts : List ℕ
counts = 1 ∷ (argument_counts ++ (11 ∷ 1 ∷ 2 ∷ []))

module _ (ws : List ℕ) (i : ℕ) where
  -- the five words behind word i: no call of document 01 has more arguments
  abbrev pub five : List ℕ
  five = get_or ws (i + 1) 0 ∷ get_or ws (i + 2) 0 ∷ get_or ws (i + 3) 0 ∷ get_or ws (i + 4) 0 ∷ get_or ws (i + 5) 0 ∷ []

  -- the eight words behind the third of them: a notify's registers
  abbrev pub eight : List ℕ
  eight =
      get_or ws (i + 4) 0 ∷ get_or ws (i + 5) 0 ∷ get_or ws (i + 6) 0 ∷ get_or ws (i + 7) 0
      ∷ get_or ws (i + 8) 0 ∷ get_or ws (i + 9) 0 ∷ get_or ws (i + 10) 0 ∷ get_or ws (i + 11) 0 ∷ []

  -- the call whose number is word i
  abbrev pub call_at : Call
  call_at = Sequence.call_at numbered ws i

  -- where the words of that call end
  abbrev pub end_at : ℕ
  end_at = Sequence.end_at counts ws i

  -- the number is that of a call, and no argument is cut off
  abbrev pub whole : Bool
  whole = Sequence.whole counts 15 ws i

-- at most n calls from word i on
abbrev pub calls_from : ℕ → List ℕ → ℕ → List Call
calls_from n ws i = Sequence.calls_from counts 15 numbered n ws i

-- the calls that words ws stand for: each takes a word at least
abbrev pub calls_of : List ℕ → List Call
calls_of ws = Sequence.calls_of counts 15 numbered ws
