-- `formatting::filling::format` meets its contract. The answer and the memory go by the edition and the size. Assumes nothing.
use mathlib.Core.Path.{sym, ◌∙◌}
use native.Mathlib.Omega.{arith}
use Rattle.formatting.proofs.Choices.{no-edition, no_size, formatted}
use Rattle.formatting.proofs.filling.format.Goals as goal

pub returns-then-edition-gt1 : goal.returns-then-edition-gt1
returns-then-edition-gt1 c =
    let s = c.args in
    no-edition s.m.now s.edition (omega arith)

pub returns-then-wrong_size : goal.returns-then-wrong_size
returns-then-wrong_size c =
    let s = c.args in
    no_size s.m.now s.edition (omega arith) c.width_of-b.ensures (sym c.wrong_size.ensures ∙ c.if-wrong_size.true)

pub format_effect-requires : goal.format_effect-requires
format_effect-requires c = record { sized = sym c.wrong_size.ensures ∙ c.if-wrong_size.false }

pub returns : goal.returns
returns c =
    let s = c.args in
    let wrong_size = c.wrong_size in
    let read_width = c.width_of-b in
    formatted s.m.now s.edition (omega arith) read_width.ensures (sym wrong_size.ensures ∙ c.if-wrong_size.false)
    c.format_effect.ensures
