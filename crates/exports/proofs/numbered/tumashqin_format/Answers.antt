-- `exports::numbered::tumashqin_format` meets its contract. The refusal is the upper half of the packed answer, whose word is 0. Assumes nothing.
use Rattle.rules.specs.Calls as C
use Rattle.rules.specs.Editions.{answer}
use Rattle.exports.proofs.Replies.{refuses}
use Rattle.exports.proofs.numbered.tumashqin_format.Goals as goal

pub returns : goal.returns
unfolding answer C.answer C.result
returns c = refuses c.upper.ensures c.pack.ensures c.format.ensures
