-- `text::numbers::all_numbers` meets its contract. The words left decide as all of them do. The measure is what is left of the line. Assumes nothing.
use mathlib.Core.Bool.{not}
use mathlib.Core.Path.{ap, sym, ◌∙◌}
use borrow.Author.Tests.{not-true, not-false}
use Rattle.text.specs.Numbers.{all_numbers}
use Rattle.text.proofs.Values.{no_number, a-number}
use Rattle.text.proofs.numbers.all_numbers.Goals as goal

pub returns-then-not-is_number : goal.returns-then-not-is_number
returns-then-not-is_number c =
    let n = c.in-Some.ensures in
    sym (c.loop-word.invariant.1 ∙ no_number c.args.s.now n.0 n.1 (sym c.is_number.ensures ∙ not-true _ (ap not c.if-not-is_number.true)))

pub loop-word-preserved : goal.loop-word-preserved
loop-word-preserved c =
    let n = c.in-Some.ensures in
    (n.0.within, c.loop-word.invariant.1 ∙ a-number c.args.s.now n.0 n.1 (sym c.is_number.ensures ∙ not-false _ (ap not c.if-not-is_number.false)))

pub returns : goal.returns
unfolding all_numbers
returns c = sym (c.loop-word.invariant.1 ∙ ap all_numbers c.in_default.ensures)
