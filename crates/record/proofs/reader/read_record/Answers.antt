-- `record::reader::read_record` meets its contract. The three answers are those of the functions called. Assumes nothing.
use mathlib.Core.Path.{ap, ◌∙◌}
use Prim.Native.Nat.{ℕ}
use Rattle.rules.specs.Row as Row
use Rattle.answers.specs.Said.{said}
use Rattle.record.proofs.Readings.{said_zero}
use Rattle.record.proofs.reader.read_record.Goals as goal

pub returns : goal.returns
returns c = (
  ap said c.and.ensures ∙ said_zero c.record_refusal.result ∙ ap (λ (n : ℕ). Row.reply n 0) c.record_refusal.ensures,
  c.record_begin.ensures,
  c.record_end.ensures,
)
