-- `pages::widths::page_bytes` meets its contract. Four times the words. Assumes nothing.
use native.Mathlib.Omega.{arith}
use Rattle.memory.proofs.Widths.{words-least}
use Rattle.pages.proofs.widths.page_bytes.Goals as goal

pub returns : goal.returns
returns c = (omega arith, omega (arith, words-least c.args.b.bits c.args.b.known.0), omega arith)
