-- `block_judge::slots::Slot::is_clear` meets its contract. Words joined as bits are 0 where each of them is. Assumes nothing.
use Rattle.block_judge.proofs.Zeros.{clear_as}
use Rattle.block_judge.proofs.slots.Slot.is_clear.Goals as goal

pub returns : goal.returns
returns c = clear_as c.args.self.now.words
