-- `block_making::deleting::give_all_back` meets its contract: the blocks that are left, in the memory as it is, give what all give. Assumes nothing.
use mathlib.Core.Path.{◌≡◌}
use lib.ListN.{drop}
use Rattle.block_memory.specs.Words.{over}
use Rattle.block_rules.specs.Effects.{give_back}
use Rattle.block_making.proofs.deleting.give_all_back.Given as goal

abbrev pub invariant-loop-n : goal.invariant-loop-n
invariant-loop-n l = over (λ w n. give_back w l.d n) l.m (drop l.n-index l.ns) ≡ over (λ w n. give_back w l.d n) l.initial.m l.ns
