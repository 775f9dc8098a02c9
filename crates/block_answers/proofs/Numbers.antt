-- No refusal has the number 0, which stands for none. Assumes nothing.
use mathlib.Core.Logic.{◌≢◌}
use Prim.Native.Nat.{ℕ}
use native.Mathlib.Omega.{arith}
use Rattle.block_answers.specs.declared.refusals.Refusal.{Refusal}
use Rattle.block_answers.specs.declared.refusals.Refusal.TheVariants.{Damaged, Child, Block, Rights, Piece, Apart, Unmerged, Slot, Structure, Enabled, Empty, Root, Length}
use Rattle.block_answers.specs.Said.{number_of}

pub number-some : (r : Refusal) → number_of r ≢ 0
number-some Damaged = omega arith
number-some Child = omega arith
number-some Block = omega arith
number-some Rights = omega arith
number-some Piece = omega arith
number-some Apart = omega arith
number-some Unmerged = omega arith
number-some Slot = omega arith
number-some Structure = omega arith
number-some Enabled = omega arith
number-some Empty = omega arith
number-some Root = omega arith
number-some Length = omega arith
