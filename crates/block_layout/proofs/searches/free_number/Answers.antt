-- `block_layout::searches::free_number` meets its contract. Assumes nothing.
use Rattle.std.proofs.Common.{eqb, rules, tests}
use Rattle.block_memory.specs.Partition.{used, free_number}
use Rattle.block_layout.proofs.searches.free_number.Goals as goal

pub returns : goal.returns
unfolding free_number
returns c =
    let s = c.args in
    c.lowest_in.ensures (λ n. eqb (used s.m.now s.d n) 0) (λ n r k. search (rules, tests))
