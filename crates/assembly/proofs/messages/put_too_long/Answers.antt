-- `assembly::messages::put_too_long` meets its contract. The text fits. Assumes nothing.
use native.Mathlib.Omega.{arith}
use Rattle.assembly.specs.Messages.{message}
use Rattle.assembly.proofs.messages.put_too_long.Goals as goal

pub returns : goal.returns
unfolding message
returns c = let p = c.put.ensures in (p, omega (arith, p.next))
