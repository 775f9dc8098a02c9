-- `text::parts::next_word` meets its contract. First the blanks, then the letters. Assumes nothing.
use native.Mathlib.Omega.{arith}
use Rattle.text.proofs.Splits.{next-is}
use Rattle.text.proofs.parts.next_word.Goals as goal

pub returns-then-start-end : goal.returns-then-start-end
returns-then-start-end c =
    let s = c.args in
    let n =
    next-is s.s.now s.i c.leading.result c.leading-2.result c.requires c.leading.ensures.0 c.leading.ensures.1 c.leading-2.ensures.0 c.leading-2.ensures.1 in
    n.none c.if-start-end.true

pub returns : goal.returns
returns c =
    let s = c.args in (
      next-is s.s.now s.i c.leading.result c.leading-2.result c.requires c.leading.ensures.0 c.leading.ensures.1 c.leading-2.ensures.0 c.leading-2.ensures.1,
      omega arith,
    )
