-- A sequence of the block kernel's calls as words, and the numbers of its answers: as the crate common has it for any kernel. Assumes nothing.
use Rattle.std.specs.Prelude.{List, [], ◌∷◌, Bool, ℕ}
use Rattle.std.proofs.Math.Option.{Option, none, some}
use Rattle.common.specs.Packed.{packed}
use Rattle.common.specs.Sequence as S
use Rattle.common.specs.Room as R
use Rattle.block_rules.specs.Call.{Call, format_all, serve}
use Rattle.block_rules.specs.Calls.{tells, told, answer, after}
use Rattle.block_sequences.specs.Numbers.{counts, most, numbered}

-- the numbers of a call's answer on memory m: the packed answer, and the six words that read enabled and find tell beside
abbrev pub reply_of : List ℕ → Call → List ℕ
reply_of m c = packed (answer m c) ∷ told m c

abbrev pub replies : List ℕ → List Call → List ℕ
replies m cs = R.replies after reply_of m cs

-- how many places the answer of a call takes, one a number: whether a block is told doesn't go by the memory or by the caller
abbrev pub places_by : Option (ℕ × ℕ) → ℕ
places_by none = 1
places_by (some b) = 7

abbrev pub places : Call → ℕ
places format_all = 1
places (serve s) = places_by (tells [] 0 s)

-- the call whose number is word i, and whether it stands there whole
abbrev pub call_at : List ℕ → ℕ → Call
call_at ws i = S.call_at numbered ws i

abbrev pub whole : List ℕ → ℕ → Bool
whole ws i = S.whole counts most ws i

-- where the words of the call at word i end, or 0 where no whole call stands there or its answer does not fit in r places
abbrev pub next_at : List ℕ → ℕ → ℕ → ℕ
next_at ws i r = R.next_at counts most numbered places ws i r

-- the calls that words ws stand for, as many as out has room for answers
abbrev pub executed : List ℕ → List ℕ → List Call
executed ws out = R.executed counts most numbered places ws out
