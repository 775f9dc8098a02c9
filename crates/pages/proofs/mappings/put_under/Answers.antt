-- `pages::mappings::put_under` meets its contract. Assumes nothing.
use Rattle.memory.specs.Partition.{put_table_word}
use Rattle.pages.proofs.mappings.put_under.Goals as goal

pub returns : goal.returns
unfolding put_table_word
returns c = cc
