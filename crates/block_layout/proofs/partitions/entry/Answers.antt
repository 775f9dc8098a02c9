-- `block_layout::partitions::entry` meets its contract. Assumes nothing.
use Rattle.block_memory.specs.Partition.{entry}
use Rattle.block_layout.proofs.partitions.entry.Goals as goal

pub returns : goal.returns
unfolding entry
returns c = c.listed.ensures
