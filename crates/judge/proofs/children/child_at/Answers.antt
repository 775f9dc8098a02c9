-- `judge::children::child_at` meets its contract. Assumes nothing.
use mathlib.Core.Path.{refl}
use Rattle.memory.specs.Counts.{child_at}
use Rattle.own_pages.proofs.Laws.Tests.{unequal, equal, same-eqb}
use Rattle.judge.proofs.children.child_at.Goals as goal

pub returns-then-mapping-eq0 : goal.returns-then-mapping-eq0
unfolding child_at
returns-then-mapping-eq0 c = rw (equal c.mapping.ensures refl c.if-mapping-eq0.true)

pub returns : goal.returns
unfolding child_at
returns c = rw (unequal c.mapping.ensures refl c.if-mapping-eq0.false) (same-eqb c.lent.ensures refl)
