-- `exports::verdicts::tumashqin_verdict` meets its contract. The number is the upper half of the packed answer, whose word is 0. Assumes nothing.
use Rattle.exports.proofs.Replies.{refusal_of}
use Rattle.exports.proofs.verdicts.tumashqin_verdict.Goals as goal

pub returns : goal.returns
returns c = refusal_of c.upper.ensures c.pack.ensures c.verdict-a.ensures
