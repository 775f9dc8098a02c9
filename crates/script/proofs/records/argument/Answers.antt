-- `script::records::argument` meets its contract. A whole record has all its arguments. Assumes nothing.
use native.Mathlib.Omega.{arith}
use Rattle.script.proofs.Walks.{whole?}
use Rattle.script.proofs.records.argument.Goals as goal

pub overflow_add-i : goal.overflow_add-i
overflow_add-i c = omega (arith, (whole? c.args.bytes.now c.args.i).0 c.requires.i_value)

pub overflow_mul-j : goal.overflow_mul-j
overflow_mul-j c = omega (arith, (whole? c.args.bytes.now c.args.i).0 c.requires.i_value)

pub overflow_add-i-2 : goal.overflow_add-i-2
overflow_add-i-2 c = omega (arith, (whole? c.args.bytes.now c.args.i).0 c.requires.i_value)

pub word_in-requires : goal.word_in-requires
word_in-requires c = omega (arith, (whole? c.args.bytes.now c.args.i).0 c.requires.i_value)
