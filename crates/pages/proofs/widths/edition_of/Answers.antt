-- `pages::widths::edition_of` meets its contract. Assumes nothing.
use native.Mathlib.Omega.{arith}
use Rattle.memory.proofs.Editions.{old-width, new-width}
use Rattle.pages.proofs.widths.edition_of.Goals as goal

pub returns-then-b : goal.returns-then-b
returns-then-b c = (old-width c.args.b.bits (omega arith), omega arith)

pub returns-else-b : goal.returns-else-b
returns-else-b c = (new-width c.args.b.bits (λ e. omega arith), omega arith)
