-- `own_pages::addresses::in_memory` meets its contract. Assumes nothing.
use Rattle.own_pages.proofs.Laws.Tests.{same-ltb}
use Rattle.own_pages.proofs.addresses.in_memory.Goals as goal

pub returns : goal.returns
returns c = same-ltb c.page_of.ensures c.pages.ensures
