-- `judge::cells::Tables::empty_cells` meets its contract. Assumes nothing.
use mathlib.Core.Bool.{not}
use mathlib.Core.Path.{ap}
use Rattle.own_pages.proofs.Laws.Tests.{yes, no}
use Rattle.judge.proofs.cells.Tables.empty_cells.Goals as goal

pub returns-then-not-block_of : goal.returns-then-not-block_of
returns-then-not-block_of c = rw (no c.block_of.ensures (ap not c.if-not-block_of.true))

pub returns-then-not-block_of-2 : goal.returns-then-not-block_of-2
returns-then-not-block_of-2 c = rw (yes c.block_of.ensures (ap not c.if-not-block_of.false), no c.block_of-2.ensures (ap not c.if-not-block_of-2.true))

pub returns : goal.returns
returns c = rw (yes c.block_of.ensures (ap not c.if-not-block_of.false), yes c.block_of-2.ensures (ap not c.if-not-block_of-2.false))
    c.block_of-3.ensures
