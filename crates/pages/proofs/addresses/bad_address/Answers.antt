-- `pages::addresses::bad_address` meets its contract. Each test that the code makes is one of the definition; the 64-bit shift is the end of the addresses. Assumes nothing.
use mathlib.Core.Path.{sym}
use native.Mathlib.Omega.{arith}
use Rattle.memory.proofs.Widths.{end_shl}
use Rattle.pages.proofs.Laws.{bad-high, bad-low, bad-rest}
use Rattle.pages.proofs.addresses.bad_address.Goals as goal

pub returns-then-b-a : goal.returns-then-b-a
returns-then-b-a c =
    sym (bad-high c.args.b.bits c.args.unit c.args.a (omega (arith, end_shl c.args.b.bits c.args.b.known.1)))

pub returns-then-a-page_bytes : goal.returns-then-a-page_bytes
returns-then-a-page_bytes c =
    sym (bad-low c.args.b.bits c.args.unit c.args.a (omega (arith, end_shl c.args.b.bits c.args.b.known.1)) (omega arith))

pub returns : goal.returns
returns c =
    sym (bad-rest c.args.b.bits c.args.unit c.args.a (omega (arith, end_shl c.args.b.bits c.args.b.known.1)) (omega arith))
