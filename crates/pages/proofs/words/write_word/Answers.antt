-- `pages::words::write_word` meets its contract. The index is that of word i of page p. Assumes nothing.
use Rattle.pages.proofs.words.write_word.Goals as goal

pub returns : goal.returns
returns c = cc
