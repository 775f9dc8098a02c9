-- Where delete_partition is not refused, 60 words hold what the child's list names. Assumes nothing.
use mathlib.Core.Path.{◌≡◌}
use mathlib.Core.Bool.{true, false}
use mathlib.Core.List.{List}
use Prim.Native.Nat.{ℕ, ◌≤◌, ◌<◌}
use borrow.Author.Tests.{not-false}
use Rattle.memory.specs.Words.{word}
use Rattle.memory.specs.Partition.{list}
use Rattle.soundness.specs.Test.{sound_test}
use Rattle.rules.specs.Call.{delete_partition}
use Rattle.rules.specs.Conditions.{bad_page, no_child, child}
use Rattle.rules.specs.Refusals.{refusals, refusal}
use Rattle.rules.proofs.Rows.{passed}
use Rattle.moves.proofs.Child.{good-some, few-listed}

module _ (b : ℕ) (m : List ℕ) (c : ℕ) (e : refusal b m (delete_partition c) ≡ 0) where
  tests : (sound_test b m ≡ true) × (bad_page b c ≡ false) × (no_child b m c ≡ false)
  unfolding refusals
  tests = let p = passed (refusals b m (delete_partition c)) e in (not-false (sound_test b m) p.0, p.1.0, p.1.1.0)

  pub child-some : 0 < c
  child-some = good-some b c tests.1

  pub child-few : word b m (list b m (child b m c)) 0 ≤ 61
  child-few = few-listed b m c tests.0 tests.1 tests.2
