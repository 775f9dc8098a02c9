-- `block_layout::searches::lowest_in` meets its contract: the search of what is left finds what the search of all finds. Assumes nothing.
use Rattle.std.proofs.Common.{◌≡◌, Bool, ℕ, ◌*◌}
use Rattle.block_memory.specs.Partition.{lowest, numbers}
use Rattle.block_memory.proofs.Loops.{left}
use Rattle.block_layout.proofs.Finding.{there_and}
use Rattle.block_layout.proofs.searches.lowest_in.Given as goal

-- whatever f the closure answers by
abbrev pub invariant-loop-k : goal.invariant-loop-k
invariant-loop-k g l =
    (f : ℕ → Bool) → ((n : ℕ) (r : Bool) → goal.F-post g l.passes n r → r ≡ f n)
    → lowest (there_and l.m l.d f) (left 136 (8 * l.k)) ≡ lowest (there_and l.m l.d f) numbers

abbrev pub invariant-loop-n : goal.invariant-loop-n
invariant-loop-n g l =
    (f : ℕ → Bool) → ((n : ℕ) (r : Bool) → goal.F-post g l.passes n r → r ≡ f n)
    → lowest (there_and l.m l.d f) (left 136 l.n) ≡ lowest (there_and l.m l.d f) numbers
