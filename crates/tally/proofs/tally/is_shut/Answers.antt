-- `tally::tally::is_shut` meets its contract. Assumes nothing.
use Rattle.own_pages.proofs.Laws.Tests.{same-eqb}
use borrow.Author.Tests.{eq-eqb, ne_eqb, le-leb, lt-leb}
use mathlib.Core.Path.{refl}
use Rattle.tally.proofs.tally.is_shut.Goals as goal

pub returns-then-w-eq0 : goal.returns-then-w-eq0
returns-then-w-eq0 c = rw (eq-eqb c.args.w 0 c.if-w-eq0.true) refl

pub returns-then-x-gt1 : goal.returns-then-x-gt1
returns-then-x-gt1 c = rw (ne_eqb c.args.w 0 c.if-w-eq0.false, lt-leb c.args.x 1 c.if-x-gt1.true) refl

pub returns : goal.returns
returns c = rw (ne_eqb c.args.w 0 c.if-w-eq0.false, le-leb c.args.x 1 c.if-x-gt1.false) (same-eqb c.accessible.ensures refl)
