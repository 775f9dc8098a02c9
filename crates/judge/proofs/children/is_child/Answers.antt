-- `judge::children::is_child` meets its contract. Assumes nothing.
use lib.Dec.{eqb}
use Rattle.own_pages.proofs.Laws.Tests.{and-false, and-true}
use mathlib.Core.Bool.{Bool, not, ◌&&◌}
use mathlib.Core.Path.{sym, ap, ◌∙◌}
use borrow.Author.Tests.{eq-eqb, ne_eqb}
use Rattle.judge.proofs.children.is_child.Goals as goal

pub returns-then-x-ne1 : goal.returns-then-x-ne1
returns-then-x-ne1 c = sym (ap (λ (t : Bool). not (eqb c.args.w 0) && t) (ne_eqb c.args.x 1 c.if-x-ne1.true) ∙ and-false (not (eqb c.args.w 0)))

pub returns : goal.returns
returns c = sym (ap (λ (t : Bool). not (eqb c.args.w 0) && t) (eq-eqb c.args.x 1 c.if-x-ne1.false) ∙ and-true (not (eqb c.args.w 0)))
