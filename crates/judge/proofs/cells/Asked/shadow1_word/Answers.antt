-- `judge::cells::Asked::shadow1_word` meets its contract. Assumes nothing.
use Rattle.own_pages.proofs.Laws.Tests.{unequal, equal}
use mathlib.Core.Path.{refl}
use Rattle.judge.proofs.Laws.Numbers.{address-fits}
use Rattle.judge.proofs.cells.Asked.shadow1_word.Goals as goal

pub returns-then-x-eq0 : goal.returns-then-x-eq0
returns-then-x-eq0 c = rw (equal refl refl c.if-x-eq0.true)

pub address_of-requires : goal.address_of-requires
address_of-requires c =
    let h = c.requires in
    let s = c.args in
    record { fits = address-fits s.self.now.b.bits s.self.now.b.known.1 s.v.0 h.page }

pub returns-then-x-eq1 : goal.returns-then-x-eq1
returns-then-x-eq1 c = rw (unequal refl refl c.if-x-eq0.false, equal refl refl c.if-x-eq1.true)
    (rw (c.page_of.ensures, c.address_of.ensures) at c.child_forms.ensures)

pub returns : goal.returns
returns c = rw (unequal refl refl c.if-x-eq0.false, unequal refl refl c.if-x-eq1.false) c.lent_word.ensures
