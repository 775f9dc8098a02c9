-- `kernel::numbers::by_number` meets its contract. Numbers 0 to 12 are known. Assumes nothing.
use mathlib.Core.Path.{refl, ap}
use mathlib.Core.Option.{some}
use native.Mathlib.Omega.{arith}
use borrow.Author.Tests.{le-leb, lt-leb}
use Rattle.kernel.proofs.numbers.by_number.Goals as goal

pub returns-then-n-gt12 : goal.returns-then-n-gt12
returns-then-n-gt12 c = rw (lt-leb c.args.n 12 (omega arith)) (refl, refl)

pub returns : goal.returns
returns c =
    let s = c.args in
    let r = c.numbered_call.ensures in
    rw (le-leb s.n 12 (omega arith)) (ap some r.0, r.1)
