-- `kernel::sequences::run` meets its contract, by the crate common's run of a sequence. Assumes nothing.
use Rattle.kernel.proofs.Running.{ran}
use Rattle.kernel.proofs.sequences.run.Goals as goal

pub returns : goal.returns
returns c = let s = c.args in let r = c.run.ensures in ran s.calls.now s.m.now s.answers.now r.count r.memory r.answered
