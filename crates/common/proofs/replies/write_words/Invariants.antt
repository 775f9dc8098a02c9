-- `common::replies::write_words` meets its contract. What is left of the words gives what is left to write. Assumes nothing.
use mathlib.Core.Path.{◌≡◌}
use Prim.Native.Nat.{◌+◌}
use lib.ListN.{length, drop}
use Rattle.common.specs.Words.{overwrite}
use Rattle.common.proofs.replies.write_words.Given as goal

abbrev pub invariant-loop-k : goal.invariant-loop-k
invariant-loop-k l =
    (length l.answers ≡ length l.initial.answers) × (overwrite l.answers (l.p + l.k) (drop l.k l.words) ≡ overwrite l.initial.answers l.p l.words)
