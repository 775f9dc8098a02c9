-- `block_making::deleting::mark_block` meets its contract: the places so far are marked, and behind the block's none is to be. Assumes nothing.
use native.Mathlib.Omega.{arith}
use Rattle.block_making.proofs.Places.{upto_start, upto_end}
use Rattle.block_making.proofs.deleting.mark_block.Goals as goal

pub loop-j-init : goal.loop-j-init
loop-j-init c =
    upto_start c.args.m.now c.args.start c.args.end c.args.out.now c.requires.0 c.requires.1

pub returns : goal.returns
returns c =
    let p = c.loop-j in
    upto_end c.args.m.now c.args.start c.args.end c.args.out.now c.requires.0 c.requires.1 p.out p.j p.invariant (λ i h l. omega arith)
