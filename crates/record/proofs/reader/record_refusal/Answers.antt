-- `record::reader::record_refusal` meets its contract. Each test that the code makes is one of the row. Assumes nothing.
use mathlib.Core.Bool.{not}
use mathlib.Core.Path.{ap}
use mathlib.Core.Path.{sym, ◌∙◌}
use native.Mathlib.Omega.{arith}
use borrow.Author.Tests.{not-true, not-false}
use Rattle.record.proofs.Readings.{short, no-magic, crossed, passed}
use Rattle.record.proofs.reader.record_refusal.Goals as goal

pub returns-then-bytes-lt76 : goal.returns-then-bytes-lt76
returns-then-bytes-lt76 c = sym (short c.args.bytes.now (omega arith))

pub returns-then-not-has_magic : goal.returns-then-not-has_magic
returns-then-not-has_magic c = sym (no-magic c.args.bytes.now (omega arith) (sym c.has_magic.ensures ∙ not-true _ (ap not c.if-not-has_magic.true)))

pub returns-then-word_in : goal.returns-then-word_in
returns-then-word_in c =
    let s = c.args in
    sym (crossed s.bytes.now (omega arith) (sym c.has_magic.ensures ∙ not-false _ (ap not c.if-not-has_magic.false)) (omega arith))

pub returns : goal.returns
returns c =
    let s = c.args in
    sym (passed s.bytes.now (omega arith) (sym c.has_magic.ensures ∙ not-false _ (ap not c.if-not-has_magic.false)) (omega arith))
