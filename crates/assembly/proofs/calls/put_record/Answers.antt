-- `assembly::calls::put_record` meets its contract. The call, and behind it its arguments. Assumes nothing.
use native.Mathlib.Omega.{arith}
use Rattle.script.proofs.Puts.{put_then}
use Rattle.text.specs.Text.{split}
use Rattle.assembly.proofs.Records.{arguments-length}
use Rattle.assembly.proofs.calls.put_record.Goals as goal

pub put_numbers-requires : goal.put_numbers-requires
put_numbers-requires c = record { s_value = c.requires.s_value; room = omega (arith, c.requires.room, c.put_word-e.ensures.next) }

pub returns : goal.returns
returns c = (
  put_then c.put_word-e.ensures c.put_numbers.ensures,
  omega (arith, c.requires.room, c.put_word-e.ensures.next, c.put_numbers.ensures.next, arguments-length (split c.args.s.now)),
)
