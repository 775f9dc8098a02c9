-- `pages::mappings::root_word` meets its contract. Assumes nothing.
use Rattle.pages.proofs.mappings.root_word.Goals as goal

pub returns : goal.returns
returns c = cc
