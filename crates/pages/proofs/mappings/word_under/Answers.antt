-- `pages::mappings::word_under` meets its contract. Assumes nothing.
use Rattle.memory.specs.Partition.{table_word}
use Rattle.pages.proofs.mappings.word_under.Goals as goal

pub returns : goal.returns
unfolding table_word
returns c = cc
