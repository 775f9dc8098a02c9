-- `tally::rows::next_word` meets its contract. Assumes nothing.
use Prim.Native.Nat.{ℕ, ◌-◌, ◌≤◌}
use mathlib.Core.Path.{◌≡◌}
use mathlib.Core.List.{List}
use lib.ListN.{length}
use Rattle.tally.specs.Search.{seek}
use Rattle.tally.specs.Rows.{used}
use Rattle.tally.proofs.rows.next_word.Given as goal

-- the search from i on has come to j
abbrev pub Come : List ℕ → ℕ → ℕ → Type 0
Come s i j = (j ≤ length s) × (seek (used s) (length s - i) i ≡ seek (used s) (length s - j) j)

abbrev pub invariant-loop-j : goal.invariant-loop-j
invariant-loop-j l = Come l.s l.i l.j

abbrev pub decreases-loop-j : goal.decreases-loop-j
decreases-loop-j l = length l.s - l.j

abbrev pub invariant-loop-j-2 : goal.invariant-loop-j-2
invariant-loop-j-2 l = Come l.s l.i l.j

abbrev pub decreases-loop-j-2 : goal.decreases-loop-j-2
decreases-loop-j-2 l = length l.s - l.j

abbrev pub invariant-loop-k : goal.invariant-loop-k
invariant-loop-k l = Come l.s l.i l.k
