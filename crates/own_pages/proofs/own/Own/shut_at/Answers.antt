-- `own_pages::own::Own::shut_at` meets its contract. Assumes nothing.
use mathlib.Core.Path.{◌∙◌}
use Rattle.own_pages.proofs.Laws.Asked.{pair-shut_as}
use Rattle.own_pages.proofs.own.Own.shut_at.Goals as goal

pub returns : goal.returns
returns c =
    let s = c.args in
    let o = s.self.now in
    let t = c.pair_at.ensures in
    c.pair_shut.ensures ∙ pair-shut_as o.width.bits o.words.now s.p.0 s.k s.j t.0 t.1 o.descriptor.0
