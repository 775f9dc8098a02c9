-- `Kernel::call` of the page kernel meets its contract. Assumes nothing.
use Rattle.kernel.specs.Sequence.{call_at}
use Rattle.kernel.proofs.Places.{reply-places}
use Rattle.kernel.proofs.sequences.PagesKernel.call.Goals as goal

pub returns-clause-numbers : goal.returns-clause-numbers
returns-clause-numbers c = let s = c.args in reply-places s.m.now (call_at s.ws.now s.i)
