-- `pages::entries::has_rights` meets its contract. The rights are those that `rights` reads. Assumes nothing.
use Rattle.pages.proofs.entries.has_rights.Goals as goal

pub returns : goal.returns
returns c = cc
