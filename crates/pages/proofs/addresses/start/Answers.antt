-- `pages::addresses::start` meets its contract. The shift is a product that fits. Assumes nothing.
use Rattle.memory.proofs.Widths.{address_by_shift}
use Rattle.pages.proofs.addresses.start.Goals as goal

pub returns : goal.returns
returns c = address_by_shift c.args.b.bits c.args.k c.requires.fits
