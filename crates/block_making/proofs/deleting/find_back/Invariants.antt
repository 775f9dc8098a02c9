-- `block_making::deleting::find_back` meets its contract: the numbers so far and those that are left of all are the numbers of all. Assumes nothing.
use mathlib.Core.Path.{◌≡◌}
use Prim.Native.Nat.{◌+◌, ◌*◌, ◌≤◌}
use lib.ListN.{length, take}
use Rattle.walk.specs.Finite.{keep}
use Rattle.block_memory.specs.Partition.{numbers}
use Rattle.block_memory.specs.Words.{over}
use Rattle.block_memory.proofs.Loops.{left}
use Rattle.block_rules.specs.Effects.{of_child}
use Rattle.block_making.proofs.Listing.{behind}
use Rattle.block_making.proofs.deleting.find_back.Given as goal

abbrev pub invariant-loop-k : goal.invariant-loop-k
invariant-loop-k l =
    (over (behind (of_child l.m l.d l.c)) (take l.r l.out) (left 136 (8 * l.k)) ≡ keep (of_child l.m l.d l.c) numbers)
    × (l.r + 8 ≤ 8 * l.k) × (length l.out ≡ 128)

abbrev pub invariant-loop-n : goal.invariant-loop-n
invariant-loop-n l =
    (over (behind (of_child l.m l.d l.c)) (take l.r l.out) (left 136 l.n) ≡ keep (of_child l.m l.d l.c) numbers)
    × (l.r + 8 ≤ l.n) × (length l.out ≡ 128)
