-- `tally::tally::lent_test` meets its contract. Assumes nothing.
use Rattle.memory.specs.Partition.{parent}
use Prim.Native.Nat.{ℕ}
use mathlib.Core.Path.{refl, ap, ◌∙◌}
use Rattle.own_pages.proofs.Laws.Tests.{equal, unequal, same-eqb}
use Rattle.judging.specs.Quick.{lent_count}
use Rattle.tally.proofs.tally.lent_test.Goals as goal

pub returns-then-d-eq1 : goal.returns-then-d-eq1
returns-then-d-eq1 c = rw (equal refl refl c.if-d-eq1.true)

pub returns : goal.returns
returns c =
    let s = c.args in
    rw (unequal refl refl c.if-d-eq1.false)
    (same-eqb (c.lent_count.ensures ∙ ap (λ (p : ℕ). lent_count s.b.bits s.m.now p c.read_word.result) c.parent.ensures ∙ ap (lent_count s.b.bits s.m.now (parent s.b.bits s.m.now s.d.0)) c.read_word.ensures) refl)
