-- `record::reader::record_end` meets its contract. Assumes nothing.
use Rattle.rules.specs.Record.{record_end}
use Rattle.record.proofs.reader.record_end.Goals as goal

pub returns : goal.returns
unfolding record_end
returns c = c.word_or_zero.ensures
