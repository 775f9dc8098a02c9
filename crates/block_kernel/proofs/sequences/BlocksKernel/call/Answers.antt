-- `Kernel::call` of the block kernel meets its contract. Assumes nothing.
use Rattle.block_sequences.specs.Replies.{call_at}
use Rattle.block_sequences.proofs.Places.{reply-places}
use Rattle.block_kernel.proofs.sequences.BlocksKernel.call.Goals as goal

pub returns-clause-numbers : goal.returns-clause-numbers
returns-clause-numbers c = let s = c.args in reply-places s.m.now (call_at s.ws.now s.i)
