-- `pages::widths::width_of` meets its contract. Assumes nothing.
use Rattle.memory.proofs.Editions.{wide_of, narrow_of}
use Rattle.pages.proofs.widths.width_of.Goals as goal

pub invariant_of-result : goal.invariant_of-result
invariant_of-result c = record { known = (wide_of c.args.edition c.requires, narrow_of c.args.edition c.requires) }
