-- `judge::children::next_child` meets its contract. Assumes nothing.
use Prim.Native.Nat.{◌-◌}
use mathlib.Core.Path.{◌≡◌}
use lib.ListN.{get_or}
use Rattle.tally.specs.Search.{seek}
use Rattle.tally.specs.Rows.{child_words}
use Rattle.judge.proofs.children.next_child.Given as goal

abbrev pub invariant-loop-j : goal.invariant-loop-j
invariant-loop-j l = seek (λ k. child_words (get_or l.pt k 0) (get_or l.s1 k 0)) (l.n - l.i) l.i ≡ seek (λ k. child_words (get_or l.pt k 0) (get_or l.s1 k 0)) (l.n - l.j) l.j

abbrev pub decreases-loop-j : goal.decreases-loop-j
decreases-loop-j l = l.n - l.j
