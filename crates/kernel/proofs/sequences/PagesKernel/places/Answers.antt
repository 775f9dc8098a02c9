-- `Kernel::places` of the page kernel meets its contract. Assumes nothing.
use mathlib.Core.Path.{sym}
use native.Mathlib.Omega.{arith}
use Rattle.kernel.proofs.Places.{single-places, resume-places}
use Rattle.kernel.proofs.sequences.PagesKernel.places.Goals as goal

pub returns-then-n-eq15 : goal.returns-then-n-eq15
returns-then-n-eq15 c = λ a. sym (resume-places c.args.n a c.if-n-eq15.true)

pub returns-else-n-eq15 : goal.returns-else-n-eq15
returns-else-n-eq15 c = λ a. sym (single-places c.args.n a (omega (arith, c.requires, c.if-n-eq15.false)))
