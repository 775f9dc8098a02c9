-- `block_layout::searches::block_at` meets its contract. Assumes nothing.
use Rattle.std.proofs.Common.{◌∙◌, rules}
use Rattle.block_memory.specs.Partition.{numbers, has_byte, block_at}
use Rattle.block_layout.proofs.Finding.{lowest_there}
use Rattle.block_layout.proofs.searches.block_at.Goals as goal

pub returns : goal.returns
unfolding block_at
returns c =
    let s = c.args in
    c.lowest_in.ensures (has_byte s.m.now s.d s.x) (λ n r k. search rules) ∙ lowest_there s.m.now s.d s.x numbers
