-- `judge::cells::Asked::origin` meets its contract. Assumes nothing.
use Rattle.own_pages.proofs.Laws.Tests.{unequal, equal}
use mathlib.Core.Path.{refl, sym, ap, ◌∙◌}
use lib.Dec.{leb}
use borrow.Author.Tests.{le-leb, lt-leb}
use Rattle.memory.specs.Entry.{least_both}
use Rattle.memory.proofs.Entry.{both-rights}
use Rattle.judge.proofs.cells.Asked.origin.Goals as goal

pub returns-then-self-eq1 : goal.returns-then-self-eq1
returns-then-self-eq1 c = rw (equal refl refl c.if-self-eq1.true)

pub returns-then-rights-ge6 : goal.returns-then-rights-ge6
returns-then-rights-ge6 c =
    let s = c.args in
    let rights = c.rights in
    let e = both-rights s.w ∙ ap (leb least_both) (sym rights.ensures) ∙ le-leb least_both rights.result c.if-rights-ge6.true in
    rw (unequal refl refl c.if-self-eq1.false, e)

pub returns : goal.returns
returns c =
    let s = c.args in
    let rights = c.rights in
    let e = both-rights s.w ∙ ap (leb least_both) (sym rights.ensures) ∙ lt-leb least_both rights.result c.if-rights-ge6.false in
    rw (unequal refl refl c.if-self-eq1.false, e) c.from_parent.ensures
