-- A call by its number: what it answers, tells beside and leaves, also where no call has the number. Assumes nothing.
use Rattle.std.specs.Prelude.{Result, Some, None, List, cond, ℕ, leb, get_or}
use Rattle.std.specs.Prelude as Code
use Rattle.std.proofs.Math.Option.{Option, none, some}
use Rattle.common.specs.Row.{Answer}
use Rattle.common.specs.Words.{overwrite}
use Rattle.block_rules.specs.Call.{Call}
use Rattle.block_rules.specs.Calls.{no_block, answer, told, after}
use Rattle.block_answers.specs.declared.refusals.Refusal.{Refusal}
use Rattle.block_answers.specs.Said.{said}
use Rattle.block_sequences.specs.Numbers.{most, numbered}

-- what an answer of the code stands for: a call's answer, or none where no call has the number
abbrev pub called : Code.Option (Result ℕ Refusal) → Option Answer
called (Some a) = some (said a)
called None = none

module _ (m : List ℕ) (n : ℕ) (a : List ℕ) where
  -- the call of number n with arguments a
  abbrev pub called_by : Call
  called_by = numbered n (λ j. get_or a j 0)

  abbrev pub called_answer : Option Answer
  called_answer = cond (leb n most) (some (answer m called_by)) none

  -- the six words that are told, or zeros where the call tells none
  abbrev pub called_words : List ℕ
  called_words = cond (leb n most) (overwrite no_block 0 (told m called_by)) no_block

  -- any other number changes no word
  abbrev pub called_after : List ℕ
  called_after = cond (leb n most) (after m called_by) m
