-- A call that stands whole, by the crate common's laws. Assumes nothing.
use mathlib.Core.Path.{◌≡◌}
use mathlib.Core.Bool.{true}
use mathlib.Core.List.{List}
use Prim.Native.Nat.{ℕ, ◌≤◌}
use lib.ListN.{length, get_or}
use Rattle.common.specs.Sequence.{end_at}
use Rattle.common.proofs.Standing
use Rattle.block_sequences.specs.Numbers.{counts, most}
use Rattle.block_sequences.specs.Replies.{whole}

-- what a whole call gives: its number is known, and its words are there

pub whole_parts : (ws : List ℕ) (i : ℕ) → whole ws i ≡ true → (get_or ws i 0 ≤ most) × (end_at counts ws i ≤ length ws)
whole_parts ws i = Standing.whole_parts counts most ws i
