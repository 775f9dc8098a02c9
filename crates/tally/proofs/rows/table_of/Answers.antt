-- `tally::rows::table_of` meets its contract. Assumes nothing.
use Rattle.tally.proofs.Laws.Rows.{table_none, table-some}
use Rattle.memory.specs.Words.{page}
use mathlib.Core.Path.{sym, ap, ◌∙◌}
use Rattle.tally.proofs.rows.table_of.Goals as goal

pub returns-then-w-eq0 : goal.returns-then-w-eq0
returns-then-w-eq0 c =
    let s = c.args in
    sym (table_none s.b.bits s.m.now s.w c.if-w-eq0.true)

pub returns : goal.returns
returns c =
    let s = c.args in
    c.words_of.ensures ∙ ap (page s.b.bits s.m.now) c.page_of.ensures ∙ sym (table-some s.b.bits s.m.now s.w c.if-w-eq0.false)
