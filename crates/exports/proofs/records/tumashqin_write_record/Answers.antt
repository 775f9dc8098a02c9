-- `exports::records::tumashqin_write_record` meets its contract. The refusal is the upper half of the packed answer, whose word is 0. Assumes nothing.
use Rattle.rules.specs.Record.{writer_answer}
use Rattle.exports.proofs.Replies.{refuses}
use Rattle.exports.proofs.records.tumashqin_write_record.Goals as goal

pub returns : goal.returns
unfolding writer_answer
returns c = refuses c.upper.ensures c.pack.ensures c.write_record.ensures
