-- `text::numbers::all_digits` meets its contract. Assumes nothing.
use mathlib.Core.Path.{◌∙◌}
use Rattle.std.proofs.Common.{rules, tests}
use Rattle.std.proofs.lemmas.Iterator.{YieldsList-from_slice}
use Rattle.std.proofs.lemmas.Iterator.Search.{all_from_yields_List}
use Rattle.text.specs.Numbers.{is_digit}
use Rattle.text.proofs.Values.{each-digit}
use Rattle.text.proofs.numbers.all_digits.Goals as goal

pub returns : goal.returns
returns c =
    all_from_yields_List is_digit _ _ _ c.all.ensures.ran (YieldsList-from_slice c.args.w.now c.iter.ensures.rest) (λ x b q k. search (rules, tests))
    ∙ each-digit c.args.w.now
