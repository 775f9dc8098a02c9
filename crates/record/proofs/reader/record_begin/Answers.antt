-- `record::reader::record_begin` meets its contract. Assumes nothing.
use Rattle.rules.specs.Record.{record_begin}
use Rattle.record.proofs.reader.record_begin.Goals as goal

pub returns : goal.returns
unfolding record_begin
returns c = c.word_or_zero.ensures
