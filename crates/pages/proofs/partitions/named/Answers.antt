-- `pages::partitions::named` meets its contract. The word is read, and its page cut out of it. Assumes nothing.
use Rattle.pages.proofs.partitions.named.Goals as goal

pub returns : goal.returns
returns c = cc
