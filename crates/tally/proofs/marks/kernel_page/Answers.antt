-- `tally::marks::kernel_page` meets its contract. Assumes nothing.
use mathlib.Core.Path.{ap, ◌∙◌}
use native.Mathlib.Omega.{arith}
use Rattle.memory.specs.Geometry.{page_of}
use Rattle.tally.proofs.Laws.Marks.{kernel-five, kernel-listed}
use Rattle.tally.proofs.marks.kernel_page.Goals as goal

pub returns-then-j-lt5 : goal.returns-then-j-lt5
returns-then-j-lt5 c =
    let s = c.args in
    c.named.ensures ∙ kernel-five s.b.bits s.m.now s.d.0 s.j c.if-j-eq0.false c.if-j-lt5.true

pub returns : goal.returns
returns c =
    let s = c.args in
    let h = c.requires in
    c.page_of.ensures ∙ ap (page_of s.b.bits) c.list_pair.ensures.1 ∙ kernel-listed s.b.bits s.m.now s.d.0 s.j (omega arith) h.one
