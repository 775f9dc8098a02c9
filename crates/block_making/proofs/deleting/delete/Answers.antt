-- `block_making::deleting::delete` meets its contract: where nothing is refused the memory is sound and the caller a partition. Assumes nothing.
use Rattle.block_rules.specs.Call.{delete}
use Rattle.block_rules.specs.Refusals.{refusals, refusals_of}
use Rattle.block_making.proofs.Making.{passed-sound, passed-partition}
use Rattle.block_making.proofs.deleting.delete.Goals as goal

pub delete_effect-requires : goal.delete_effect-requires
unfolding refusals refusals_of
delete_effect-requires c =
    let s = c.args in
    let e = c.in_ok-child_refusal.ensures in
    (passed-sound s.m.now (delete s.c) e, passed-partition s.m.now (delete s.c) e c.current-d.ensures)
