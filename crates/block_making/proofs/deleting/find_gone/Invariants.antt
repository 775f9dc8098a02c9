-- `block_making::deleting::find_gone` meets its contract: the blocks that are left mark what all mark. Assumes nothing.
use mathlib.Core.Path.{◌≡◌}
use Prim.Native.Nat.{ℕ, ◌<◌}
use lib.ListN.{length, get_or}
use Rattle.block_making.proofs.Places.{still}
use Rattle.block_making.proofs.deleting.find_gone.Given as goal

abbrev pub invariant-loop-n : goal.invariant-loop-n
invariant-loop-n l = (j : ℕ) → j < length l.initial.out → still l.m l.d l.ns l.n-index j (get_or l.out j 0) ≡ still l.m l.d l.ns 0 j 0
