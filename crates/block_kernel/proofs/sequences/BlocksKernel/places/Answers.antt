-- `Kernel::places` of the block kernel meets its contract. Assumes nothing.
use mathlib.Core.Bool.{Bool, cond}
use mathlib.Core.Path.{sym, ap, ◌∙◌}
use Rattle.block_sequences.proofs.Places.{number-places}
use Rattle.block_kernel.proofs.sequences.BlocksKernel.places.Goals as goal

pub returns-then-tells_block : goal.returns-then-tells_block
returns-then-tells_block c = λ a. sym (number-places c.args.n a ∙ ap (λ (t : Bool). cond t 7 1) (sym c.tells_block.ensures ∙ c.if-tells_block.true))

pub returns-else-tells_block : goal.returns-else-tells_block
returns-else-tells_block c = λ a. sym (number-places c.args.n a ∙ ap (λ (t : Bool). cond t 7 1) (sym c.tells_block.ensures ∙ c.if-tells_block.false))
