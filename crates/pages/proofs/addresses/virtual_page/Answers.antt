-- `pages::addresses::virtual_page` meets its contract. The field above the lowest b + 2 bits is the page. Assumes nothing.
use mathlib.Core.Path.{◌∙◌}
use Rattle.memory.proofs.Widths.{page_by_shift}
use Rattle.pages.proofs.addresses.virtual_page.Goals as goal

pub returns : goal.returns
returns c = c.high.ensures ∙ page_by_shift c.args.b.bits c.args.a
