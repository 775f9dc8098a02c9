-- The lines written so far, with those of what is left, are those of all.
use Rattle.std.proofs.Common.{◌≡◌, drop, List, ℕ, ◌++◌}
use Rattle.std.specs.Io.KnownBytes.{Appends}
use Rattle.stdio.specs.Lines.{answer_lines}
use Rattle.stdio.proofs.answers.print_answers.Given as goal

abbrev pub invariant-loop-x : goal.invariant-loop-x
invariant-loop-x g l = (done : List ℕ) × Appends (g.W.Write.contents l.initial.output) (g.W.Write.contents l.output) done × (done ++ answer_lines (drop l.x-index l.answers) ≡ answer_lines l.answers)
