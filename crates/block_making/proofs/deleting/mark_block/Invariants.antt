-- `block_making::deleting::mark_block` meets its contract: the places so far are marked, and behind the block's none is to be. Assumes nothing.
use Rattle.block_making.proofs.Places.{Upto}
use Rattle.block_making.proofs.deleting.mark_block.Given as goal

abbrev pub invariant-loop-j : goal.invariant-loop-j
invariant-loop-j l = Upto l.m l.start l.end l.initial.out l.out l.j
