-- `judge::cells::Asked::lent_word` meets its contract. Assumes nothing.
use mathlib.Core.Bool.{not}
use mathlib.Core.Path.{ap}
use Rattle.own_pages.proofs.Laws.Tests.{yes, no, same-eqb}
use mathlib.Core.Path.{refl, sym, ◌∙◌}
use Rattle.judge.proofs.Laws.Lent.{word-under, lent-absent, lent-told}
use Rattle.judge.proofs.cells.Asked.lent_word.Goals as goal

pub returns-then-not-virtual_address : goal.returns-then-not-virtual_address
returns-then-not-virtual_address c = rw (no c.virtual_address.ensures (ap not c.if-not-virtual_address.true))

pub returns-then-table_word-eq0 : goal.returns-then-table_word-eq0
returns-then-table_word-eq0 c =
    let s = c.args in
    let e = word-under s.self.now.b.bits s.self.now.m.now s.x c.table_word.ensures c.args.self.now.at_own.0
    c.virtual_page-v.ensures in
    sym (lent-absent s.self.now.b.bits s.self.now.m.now s.self.now.descriptor.0 s.x (sym e ∙ c.if-table_word-eq0.true))

pub returns : goal.returns
returns c =
    let s = c.args in
    let own = c.args.self.now.at_own in
    let virtual-page = c.virtual_page-v in
    let e = word-under s.self.now.b.bits s.self.now.m.now s.x c.table_word.ensures own.0 virtual-page.ensures in
    same-eqb (word-under s.self.now.b.bits s.self.now.m.now s.x c.table_word-2.ensures own.1 virtual-page.ensures) refl
    ∙ sym (lent-told s.self.now.b.bits s.self.now.m.now s.self.now.descriptor.0 s.x
    (yes c.virtual_address.ensures (ap not c.if-not-virtual_address.false))
    (λ z. c.if-table_word-eq0.false (e ∙ z)))
