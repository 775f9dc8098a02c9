-- `judge::cells::from_parent` meets its contract. Assumes nothing.
use Rattle.own_pages.proofs.Laws.Tests.{unequal, equal, same-eqb}
use mathlib.Core.Path.{refl, sym, ◌∙◌}
use Rattle.judge.proofs.Laws.Lent.{word-under}
use Rattle.judge.proofs.Laws.Joined.{same-mapping}
use Rattle.judge.proofs.cells.from_parent.Goals as goal

pub returns-then-u-eq0 : goal.returns-then-u-eq0
returns-then-u-eq0 c =
    let s = c.args in
    let e = word-under s.b.bits s.m.now s.y c.table_word-u.ensures refl c.virtual_page-v.ensures in
    rw (← e, equal refl refl c.if-u-eq0.true)

pub returns-then-frame-flags_added-ne0 : goal.returns-then-frame-flags_added-ne0
returns-then-frame-flags_added-ne0 c =
    let s = c.args in
    let table-word = c.table_word-u in
    let e = word-under s.b.bits s.m.now s.y table-word.ensures refl c.virtual_page-v.ensures in
    let j = same-mapping s.b.bits s.w table-word.result c.flags_added.result c.frame.ensures.0
    c.frame-2.ensures.0 c.flags_added.ensures in
    rw (← e, unequal refl refl c.if-u-eq0.false, sym j ∙ unequal refl refl c.if-frame-flags_added-ne0.true)

pub returns : goal.returns
returns c =
    let s = c.args in
    let table-word = c.table_word-u in
    let virtual-page = c.virtual_page-v in
    let e = word-under s.b.bits s.m.now s.y table-word.ensures refl virtual-page.ensures in
    let j = same-mapping s.b.bits s.w table-word.result c.flags_added.result c.frame.ensures.0
    c.frame-2.ensures.0 c.flags_added.ensures in
    rw (← e, unequal refl refl c.if-u-eq0.false, sym j ∙ equal refl refl c.if-frame-flags_added-ne0.false)
    (same-eqb (word-under s.b.bits s.m.now s.y c.table_word.ensures refl virtual-page.ensures) refl)
