-- `pages::mappings::table_for` meets its contract. Assumes nothing.
use Rattle.pages.proofs.mappings.table_for.Goals as goal

pub returns : goal.returns
returns c = cc
