-- `own_pages::pairs::form_at` meets its contract. Assumes nothing.
use mathlib.Core.Path.{◌∙◌}
use Rattle.own_pages.proofs.Laws.Asked.{pair-form_as}
use Rattle.own_pages.proofs.pairs.form_at.Goals as goal

pub returns : goal.returns
returns c =
    let s = c.args in
    let t = c.pair_at.ensures in
    c.pair_form.ensures ∙ pair-form_as s.b.bits s.m.now s.p.0 s.k s.j t.0 t.1
