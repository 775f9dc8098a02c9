-- `block_moves::changes::disable` meets its contract: the entries that are left, changed in the memory as it is, give what all give. Assumes nothing.
use mathlib.Core.Path.{◌≡◌}
use Rattle.block_memory.specs.Words.{over}
use Rattle.block_memory.proofs.Loops.{left}
use Rattle.block_moves.proofs.Disabling.{disabled}
use Rattle.block_moves.proofs.changes.disable.Given as goal

abbrev pub invariant-loop-e : goal.invariant-loop-e
invariant-loop-e l = over (disabled l.d l.n) l.m (left 9 l.e) ≡ over (disabled l.d l.n) l.initial.m (left 9 1)
