-- `pages::tables::table_word` meets its contract. Assumes nothing.
use Rattle.memory.specs.Partition.{table_word}
use Rattle.pages.proofs.tables.table_word.Goals as goal

pub returns : goal.returns
unfolding table_word
returns c = cc
