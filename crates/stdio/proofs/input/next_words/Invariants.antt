-- The words so far are those that the input lost.
use Rattle.std.proofs.Common.{IfSome}
use Rattle.stdio.specs.Words.{HoldsWords, LosesWords}
use Rattle.stdio.proofs.input.next_words.Given as goal

abbrev pub invariant-loop-word : goal.invariant-loop-word
invariant-loop-word g l =
    IfSome (g.R.Read.remaining l.initial.input) (HoldsWords l.word-index l.word-items)
    × LosesWords l.word-index (g.R.Read.remaining l.initial.input) (g.R.Read.remaining l.input)
