-- `block_making::deleting::wipe_gone` meets its contract: the partitions that are left, in the memory as it is, give what all give. Assumes nothing.
use mathlib.Core.Path.{◌≡◌}
use lib.ListN.{drop}
use Rattle.block_memory.specs.Words.{over}
use Rattle.block_rules.specs.Effects.{wipe_partition}
use Rattle.block_making.specs.Deleting.{passing}
use Rattle.block_making.proofs.deleting.wipe_gone.Given as goal

abbrev pub invariant-loop-t : goal.invariant-loop-t
invariant-loop-t l = over (passing wipe_partition) l.m (drop l.t-index l.ts) ≡ over (passing wipe_partition) l.initial.m l.ts
