-- `pages::addresses::start_of` meets its contract. Assumes nothing.
use Prim.Native.Nat.{◌/◌, ◌^◌}
use native.Mathlib.Nat.{mod-le}
use native.Mathlib.Omega.{arith}
use Rattle.pages.proofs.Laws.{start_by_mask}
use Rattle.pages.proofs.addresses.start_of.Goals as goal

pub overflow_sub-result : goal.overflow_sub-result
overflow_sub-result c = omega (arith, c.low.ensures, mod-le (c.args.w / 4) (2 ^ c.args.b.bits))

pub returns : goal.returns
returns c = (omega (arith, c.low.ensures, start_by_mask c.args.b.bits c.args.w), omega arith)
