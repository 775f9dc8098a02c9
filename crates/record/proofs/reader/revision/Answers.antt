-- `record::reader::revision` meets its contract. By whether the record is refused; one that is not has 76 bytes. Assumes nothing.
use mathlib.Core.Path.{sym}
use native.Mathlib.Omega.{arith}
use Rattle.rules.specs.Record.{revision_of}
use Rattle.record.proofs.Readings.{passed-long, read, not_read}
use Rattle.record.proofs.reader.revision.Goals as goal

pub slice_bounds-result-end : goal.slice_bounds-result-end
slice_bounds-result-end c = omega (arith, passed-long c.args.bytes.now (sym c.in-Ok.ensures))

pub returns-in-Ok : goal.returns-in-Ok
unfolding revision_of
returns-in-Ok c = read c.args.bytes.now _ _ c.in-Ok.ensures

pub returns-in-Err : goal.returns-in-Err
unfolding revision_of
returns-in-Err c = not_read c.args.bytes.now _ _ _ c.in-Err.ensures
