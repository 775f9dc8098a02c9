-- `block_layout::partitions::structure` meets its contract. Assumes nothing.
use Rattle.block_memory.specs.Partition.{structure}
use Rattle.block_layout.proofs.partitions.structure.Goals as goal

pub returns : goal.returns
unfolding structure
returns c = c.listed.ensures
