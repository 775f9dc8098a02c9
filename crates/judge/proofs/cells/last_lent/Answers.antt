-- `judge::cells::last_lent` meets its contract. Assumes nothing.
use borrow.Author.Tests.{le-leb, lt-leb}
use native.Mathlib.Omega.{arith}
use Rattle.judge.proofs.cells.last_lent.Goals as goal

pub returns-then-x-le1 : goal.returns-then-x-le1
returns-then-x-le1 c = rw (le-leb c.args.x 1 (omega arith))

pub returns-else-x-le1 : goal.returns-else-x-le1
returns-else-x-le1 c = rw (lt-leb c.args.x 1 (omega arith))
