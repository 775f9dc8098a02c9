-- `block_making::wiping::wipe_structures` meets its contract: the places that are left, in the memory as it is, give what all give. Assumes nothing.
use mathlib.Core.Path.{◌≡◌}
use mathlib.Core.List.{List}
use Prim.Native.Nat.{ℕ}
use lib.ListN.{drop}
use Rattle.block_memory.specs.Words
use Rattle.block_memory.specs.Words.{over}
use Rattle.block_making.specs.Deleting.{passing}
use Rattle.block_making.proofs.wiping.wipe_structures.Given as goal

-- a structure is wiped if one is there
abbrev pub wipe_at : List ℕ → ℕ → List ℕ
wipe_at = passing (λ w i. Words.wipe w i 74)

abbrev pub invariant-loop-s : goal.invariant-loop-s
invariant-loop-s l = over wipe_at l.m (drop l.s-index l.s-items) ≡ over wipe_at l.initial.m l.s-items
