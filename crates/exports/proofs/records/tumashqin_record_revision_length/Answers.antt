-- `exports::records::tumashqin_record_revision_length` meets its contract. Assumes nothing.
use mathlib.Core.Path.{ap}
use lib.ListN.{length}
use Rattle.exports.proofs.Revision.{revision_part}
use Rattle.exports.proofs.records.tumashqin_record_revision_length.Goals as goal

pub returns : goal.returns
returns c =
    let e = ap length c.revision-part.ensures in
    (e, revision_part c.args.bytes.now e)
