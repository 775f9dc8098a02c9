-- `record::reader::word_or_zero` meets its contract. By whether the record is refused; one that is not has 76 bytes. Assumes nothing.
use mathlib.Core.Path.{sym, ◌∙◌}
use native.Mathlib.Omega.{arith}
use Rattle.record.proofs.Readings.{passed-long, read, not_read}
use Rattle.record.proofs.reader.word_or_zero.Goals as goal

pub word_in-requires : goal.word_in-requires
word_in-requires c = omega (arith, passed-long c.args.bytes.now (sym c.in-Ok.ensures))

pub returns-in-Ok : goal.returns-in-Ok
returns-in-Ok c = c.word_in.ensures ∙ read c.args.bytes.now _ 0 c.in-Ok.ensures

pub returns-in-Err : goal.returns-in-Err
returns-in-Err c = not_read c.args.bytes.now _ 0 _ c.in-Err.ensures
