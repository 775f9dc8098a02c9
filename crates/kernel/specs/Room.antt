-- The numbers of the answers of a sequence, and how many calls there is room for, as the crate common has them for any kernel. Assumes nothing.
use Rattle.std.specs.Prelude.{List, ◌∷◌, ℕ, ◌+◌}
use Rattle.std.proofs.Math.Option.{Option, none, some}
use Rattle.common.specs.Room
use Rattle.memory.specs.Contexts.{saved_words}
use Rattle.rules.specs.Call.{Call, resumption}
use Rattle.rules.specs.Editions.{answer, after, context}
use Rattle.answers.specs.Packed.{packed}
use Rattle.kernel.specs.Sequence.{counts, numbered}

-- the numbers of a call's answer on memory m: the packed answer, and the words that a resume answers beside
abbrev pub reply_of : List ℕ → Call → List ℕ
reply_of m c = packed (answer m c) ∷ context m c

-- those of the calls cs, one answer after the other
abbrev pub replies : List ℕ → List Call → List ℕ
replies m cs = Room.replies after reply_of m cs

-- how many places the answer of a call takes: one a number
abbrev pub places_by : Option (ℕ × ℕ) → ℕ
places_by none = 1
places_by (some x) = 1 + saved_words

abbrev pub places : Call → ℕ
places c = places_by (resumption c)

-- how many those of the calls cs take
abbrev pub places_all : List Call → ℕ
places_all cs = Room.places_all places cs

-- the calls from the first on whose answers fit in r places: the first whose answer does not is not run, and none behind it
abbrev pub fitting : ℕ → List Call → List Call
fitting r cs = Room.fitting places r cs

-- where the words of the call at word i end, or 0 where no whole call stands there or its answer does not fit in r places
abbrev pub next_at : List ℕ → ℕ → ℕ → ℕ
next_at ws i r = Room.next_at counts 15 numbered places ws i r
