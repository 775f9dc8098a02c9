-- `pages::tables::word_in` meets its contract. Assumes nothing.
use mathlib.Core.Path.{refl}
use borrow.Author.Tests.{eq-eqb, ne_eqb}
use Rattle.pages.proofs.tables.word_in.Goals as goal

pub returns-then-t-eq0 : goal.returns-then-t-eq0
returns-then-t-eq0 c = rw (eq-eqb c.args.t 0 c.if-t-eq0.true) refl

pub returns : goal.returns
returns c = rw (ne_eqb c.args.t 0 c.if-t-eq0.false) (cc)
