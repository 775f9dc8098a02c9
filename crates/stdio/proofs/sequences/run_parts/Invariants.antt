-- The input has lost whole words.
use Rattle.stdio.specs.Words.{LosesWhole}
use Rattle.stdio.proofs.sequences.run_parts.Given as goal

abbrev pub invariant-loop-k : goal.invariant-loop-k
invariant-loop-k g l = LosesWhole (g.R.Read.remaining l.initial.input) (g.R.Read.remaining l.input)
