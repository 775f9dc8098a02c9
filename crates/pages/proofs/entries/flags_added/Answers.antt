-- `pages::entries::flags_added` meets its contract. Assumes nothing.
use Rattle.pages.proofs.Flags.{none-added}
use Rattle.pages.proofs.entries.flags_added.Goals as goal

pub returns : goal.returns
returns c = none-added c.args.w c.args.u
