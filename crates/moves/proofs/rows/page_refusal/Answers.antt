-- `moves::rows::page_refusal` meets its contract. Each test that the code makes is one of the row. Assumes nothing.
use mathlib.Core.Bool.{not}
use mathlib.Core.Path.{sym, ap, ◌∙◌}
use Rattle.rules.proofs.Rows.{on, at, none, first-is}
use Rattle.moves.proofs.rows.page_refusal.Goals as goal

pub returns-then-not-good : goal.returns-then-not-good
returns-then-not-good c = sym (first-is (at (ap not (sym c.requires.judged) ∙ ap not c.if-not-good.true)))

pub returns-then-any_bad : goal.returns-then-any_bad
returns-then-any_bad c =
    let g = ap not (sym c.requires.judged) ∙ ap not c.if-not-good.false in
    sym (first-is (on g (at (sym c.any_bad.ensures ∙ c.if-any_bad.true))))

pub returns : goal.returns
returns c =
    let g = ap not (sym c.requires.judged) ∙ ap not c.if-not-good.false in
    sym (first-is (on g (on (sym c.any_bad.ensures ∙ c.if-any_bad.false) none)))
