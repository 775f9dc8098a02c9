-- `own_pages::addresses::virtual_address` meets its contract. Assumes nothing.
use mathlib.Core.Path.{◌∙◌}
use borrow.Author.Tests.{ne_eqb}
use Rattle.own_pages.proofs.Laws.Places.{virtual-not, virtual-at}
use Rattle.own_pages.proofs.addresses.virtual_address.Goals as goal

pub returns-else-place-eq0 : goal.returns-else-place-eq0
returns-else-place-eq0 c =
    let s = c.args in
    ne_eqb c.place.result 0 c.if-place-eq0.false ∙ virtual-not s.b.bits s.v c.place.ensures c.if-place-eq0.false

pub returns-then-place-eq0 : goal.returns-then-place-eq0
returns-then-place-eq0 c =
    let s = c.args in
    virtual-at s.b.bits s.v c.place.ensures c.if-place-eq0.true c.last_address.ensures
