-- `forms::tables::entry_test` meets its contract. Assumes nothing.
use mathlib.Core.Path.{◌≡◌, refl, sym, ◌∙◌}
use Rattle.memory.specs.Partition.{pages}
use Rattle.judging.specs.Quick.{entry_test}
use borrow.Author.Tests.{ne_eqb}
use Rattle.own_pages.proofs.Laws.Tests.{unequal, equal, same-ltb}
use Rattle.own_pages.proofs.Laws.Places.{page-below, entry-is, entry-not}
use Rattle.forms.proofs.tables.entry_test.Goals as goal

pub returns-else-place-eq1 : goal.returns-else-place-eq1
unfolding entry_test
returns-else-place-eq1 c =
    let b = c.args.b in
    ne_eqb _ 1 c.if-place-eq1.false
    ∙ sym (rw (unequal refl refl (entry-not b.bits c.args.w b.known.0 b.known.1 c.place.ensures c.if-place-eq1.false)) refl)

pub returns-then-place-eq1 : goal.returns-then-place-eq1
unfolding entry_test
returns-then-place-eq1 c =
    let b = c.args.b in
    let w = c.args.w in
    let e : c.from.result ≡ w = cc in
    rw (equal refl refl (entry-is b.bits w b.known.0 b.known.1 c.place.ensures c.if-place-eq1.true))
    (same-ltb e c.requires.end ∙ page-below b.bits w (pages b.bits c.args.m.now))
