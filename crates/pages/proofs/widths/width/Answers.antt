-- `pages::widths::width` meets its contract. Assumes nothing.
use mathlib.Core.Path.{sym, ap, ◌∙◌}
use native.Mathlib.Omega.{arith}
use Rattle.memory.specs.Geometry.{width_of}
use Rattle.memory.proofs.Editions.{edition-named, edition-unnamed}
use Rattle.pages.proofs.widths.width.Goals as goal

pub returns-then-named-lt2 : goal.returns-then-named-lt2
returns-then-named-lt2 c =
    let s = c.args in
    c.width_of.ensures ∙ ap width_of (c.read-named.ensures ∙ sym (edition-named s.m.now (omega arith)))

pub returns : goal.returns
returns c =
    let s = c.args in
    c.width_of-2.ensures ∙ ap width_of (sym (edition-unnamed s.m.now (omega arith)))
