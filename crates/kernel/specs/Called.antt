-- A call by its number: what it answers and leaves, also where no call has the number. Assumes nothing.
use Rattle.std.specs.Prelude.{Result, Some, None, List, cond, ℕ, leb, get_or}
use Rattle.std.specs.Prelude as Std
use Rattle.std.proofs.Math.Option.{Option, none, some}
use Rattle.rules.specs.Row.{Answer}
use Rattle.rules.specs.Call.{Call}
use Rattle.rules.specs.Editions.{answer, after}
use Rattle.answers.specs.Said.{said}
use Rattle.answers.specs.declared.refusals.Refusal.{Refusal}
use Rattle.kernel.specs.Sequence.{numbered}

-- what an answer of the code stands for: a call's answer, or none where no call has the number
abbrev pub called : Std.Option (Result ℕ Refusal) → Option Answer
called (Some a) = some (said a)
called None = none

module _ (m : List ℕ) (n : ℕ) (a : List ℕ) where
  -- the call of number n with arguments a
  abbrev pub called_by : Call
  called_by = numbered n (λ j. get_or a j 0)

  -- numbers 0 to 12 are known: format and document 01's calls
  abbrev pub called_answer : Option Answer
  called_answer = cond (leb n 12) (some (answer m called_by)) none

  -- any other number changes no word
  abbrev pub called_after : List ℕ
  called_after = cond (leb n 12) (after m called_by) m
