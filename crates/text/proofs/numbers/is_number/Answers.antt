-- `text::numbers::is_number` meets its contract. Each test is one of the definition. Assumes nothing.
use mathlib.Core.Path.{sym, ◌∙◌}
use Rattle.text.proofs.Values.{no-digits, too_wide, not-digits, by_value}
use Rattle.text.proofs.numbers.is_number.Goals as goal

pub returns-then-w-lt1 : goal.returns-then-w-lt1
returns-then-w-lt1 c = no-digits c.args.w.now c.if-w-lt1.true

pub returns-then-w-gt10 : goal.returns-then-w-gt10
returns-then-w-gt10 c = too_wide c.args.w.now c.if-w-lt1.false c.if-w-gt10.true

pub value-requires : goal.value-requires
value-requires c = (c.if-w-gt10.false, sym c.all_digits.ensures ∙ c.if-all_digits.true)

pub returns-then-all_digits : goal.returns-then-all_digits
returns-then-all_digits c = by_value c.args.w.now c.value.result c.if-w-lt1.false c.if-w-gt10.false (sym c.all_digits.ensures ∙ c.if-all_digits.true) c.value.ensures

pub returns-else-all_digits : goal.returns-else-all_digits
returns-else-all_digits c = c.if-all_digits.false ∙ not-digits c.args.w.now c.if-w-lt1.false c.if-w-gt10.false (sym c.all_digits.ensures ∙ c.if-all_digits.false)
