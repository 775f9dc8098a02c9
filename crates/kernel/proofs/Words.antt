-- A call of a sequence that stands whole, by the crate common's laws. Assumes nothing.
use mathlib.Core.Path.{◌≡◌}
use mathlib.Core.Bool.{true}
use mathlib.Core.List.{List}
use Prim.Native.Nat.{ℕ, ◌≤◌}
use lib.ListN.{length, get_or}
use Rattle.common.proofs.Standing
use Rattle.kernel.specs.Sequence.{counts, end_at, whole}

module _ (ws : List ℕ) (i : ℕ) where
  -- what a whole call gives: its number is known, and its words are there
  pub whole_parts : whole ws i ≡ true → (get_or ws i 0 ≤ 15) × (end_at ws i ≤ length ws)
  whole_parts = Standing.whole_parts counts 15 ws i
