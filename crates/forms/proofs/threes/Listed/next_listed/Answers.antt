-- `forms::threes::Listed::next_listed` meets its contract. Assumes nothing.
use mathlib.Core.Bool.{true, false}
use mathlib.Core.Path.{◌≡◌}
use Rattle.std.proofs.Common.{rules, tests}
use Rattle.std.proofs.lemmas.Iterator.{first_from_Range}
use Rattle.own_pages.specs.Asked.{listed_as}
use Rattle.forms.proofs.threes.Listed.next_listed.Goals as goal

pub returns : goal.returns
unfolding listed_as
returns c =
    let o = c.args.self.now.own in
    let t = c.args.t in
    let f = listed_as o.width.bits o.words.now o.descriptor.0 t.0 t.1 t.2 in
    first_from_Range _ _ _ _ (λ k. f k ≡ true) (λ k. f k ≡ false) c.find.ensures.ran (λ x q k. search (rules, tests)) (λ x q k. search (rules, tests))
