-- `own_pages::pairs::pairs_form` meets its contract. Assumes nothing.
use mathlib.Core.Path.{refl}
use Rattle.std.proofs.Common.{rules, tests}
use Rattle.own_pages.specs.Asked.{pair_form}
use Rattle.own_pages.proofs.Laws.Loops.{all_over}
use Rattle.own_pages.proofs.pairs.pairs_form.Goals as goal

pub returns : goal.returns
returns c =
    let s = c.args in
    let f = pair_form s.b.bits s.m.now s.p.0 s.k in
    all_over f s.n c.all.ensures.ran refl (λ x b q k. search (rules, tests))
