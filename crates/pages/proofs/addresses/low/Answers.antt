-- `pages::addresses::low` meets its contract. The mask is 2 ^ n - 1, at every width n. Assumes nothing.
use native.Mathlib.Omega.{arith}
use lib.Pow.{pow_pos}
use Rattle.pages.proofs.Laws.{one_bit, low_field}
use Rattle.pages.proofs.addresses.low.Goals as goal

pub overflow_sub-result : goal.overflow_sub-result
overflow_sub-result c = omega (arith, one_bit c.args.n c.requires, pow_pos c.args.n)

pub returns : goal.returns
returns c = low_field c.args.x c.args.n c.requires
