-- `pages::parts::fill_page` meets its contract. The part that was lent comes back filled, and the words around it as they were. Assumes nothing.
use native.Mathlib.Omega.{arith}
use Rattle.memory.proofs.Pages.{fill-back}
use Rattle.pages.proofs.parts.fill_page.Goals as goal

pub returns : goal.returns
returns c =
    let min = c.min-a in
    let copy = c.copy in
    fill-back c.args.b.bits c.args.m.now c.args.p.0 min.result c.min-e.result (omega arith) (omega arith)
    c.args.ws.now copy.new.s c.requires.fits copy.ensures
