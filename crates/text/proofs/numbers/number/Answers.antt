-- `text::numbers::number` meets its contract. A number fits 32 bits. Assumes nothing.
use native.Mathlib.Omega.{arith}
use Rattle.text.proofs.Values.{number?}
use Rattle.text.proofs.numbers.number.Goals as goal

pub value-requires : goal.value-requires
value-requires c = let n = (number? c.args.w.now).0 c.requires in (n.0.0.1, n.0.1)

pub overflow_cast-result : goal.overflow_cast-result
overflow_cast-result c = omega (arith, c.value.ensures, ((number? c.args.w.now).0 c.requires).1)
