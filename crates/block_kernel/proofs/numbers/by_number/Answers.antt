-- `block_kernel::numbers::by_number` meets its contract. Numbers 0 to 13 are known, and a call that tells no block has no words. Assumes nothing.
use mathlib.Core.Path.{sym, ap, ◌∙◌}
use mathlib.Core.Option.{some}
use native.Mathlib.Omega.{arith}
use borrow.Author.Tests.{le-leb}
use Rattle.block_kernel.proofs.Telling.{words-zero}
use Rattle.block_kernel.proofs.numbers.by_number.Goals as goal

pub returns : goal.returns
returns c =
    let s = c.args in
    let t = sym c.tells_block.ensures ∙ c.if-tells_block.false in
    let r = c.untold.ensures in
    rw (le-leb s.n 13 (omega (arith, c.if-n-gt13.false))) (ap some r.0, words-zero s.m.now s.n s.a t, r.1)
