-- `judge::partitions::tables_test` meets its contract. Assumes nothing.
use Prim.Native.Nat.{ℕ}
use lib.Dec.{eqb}
use Rattle.own_pages.proofs.Laws.Tests.{equal, unequal}
use mathlib.Core.Path.{refl, ap}
use Rattle.judge.proofs.partitions.tables_test.Goals as goal

pub returns-then-mapping-ne0 : goal.returns-then-mapping-ne0
returns-then-mapping-ne0 c = rw (unequal c.mapping.ensures refl c.if-mapping-ne0.true)

pub returns : goal.returns
returns c = rw (equal c.mapping.ensures refl c.if-mapping-ne0.false) (ap (λ (n : ℕ). eqb n c.args.due) c.from.ensures)
