-- `own_pages::own::Own::pairs_shut` meets its contract. Assumes nothing.
use mathlib.Core.Path.{refl}
use Rattle.std.proofs.Common.{rules, tests}
use Rattle.own_pages.specs.Asked.{pair_shut}
use Rattle.own_pages.proofs.Laws.Loops.{all_over}
use Rattle.own_pages.proofs.own.Own.pairs_shut.Goals as goal

pub returns : goal.returns
returns c =
    let s = c.args in
    let o = s.self.now in
    let f = pair_shut o.width.bits o.words.now o.descriptor.0 s.p.0 s.k in
    all_over f s.n c.all.ensures.ran refl (λ x b q k. search (rules, tests))
