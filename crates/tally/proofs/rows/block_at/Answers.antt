-- `tally::rows::block_at` meets its contract. Assumes nothing.
use mathlib.Core.Path.{refl}
use Rattle.own_pages.proofs.Laws.Tests.{unequal, equal}
use Rattle.tally.proofs.rows.block_at.Goals as goal

pub returns-then-i-ne0 : goal.returns-then-i-ne0
returns-then-i-ne0 c = rw (unequal refl refl c.if-i-ne0.true)

pub returns : goal.returns
returns c = rw (equal refl refl c.if-i-ne0.false)
