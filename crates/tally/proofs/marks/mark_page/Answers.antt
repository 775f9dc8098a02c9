-- `tally::marks::mark_page` meets its contract. Assumes nothing.
use Prim.Native.Nat.{◌/◌}
use native.Mathlib.Nat.{pos_of_ne-zero}
use native.Mathlib.Omega.{arith}
use Rattle.walk.specs.Marks.{mark-zero}
use Rattle.tally.proofs.Laws.Bits.{words-out, bit-taken, bit-free}
use Rattle.tally.proofs.marks.mark_page.Goals as goal

pub returns-then-p-eq0 : goal.returns-then-p-eq0
returns-then-p-eq0 c = mark-zero _ _ c.if-p-eq0.true

pub returns-then-i-seen : goal.returns-then-i-seen
returns-then-i-seen c = let s = c.args in words-out s.seen.now s.p.0 c.if-i-seen.true

pub returns-then-x-w : goal.returns-then-x-w
returns-then-x-w c =
    let s = c.args in
    bit-taken s.seen.now s.p.0 c.if-i-seen.false c.if-x-w.true

pub returns : goal.returns
returns c =
    let s = c.args in
    bit-free s.seen.now s.p.0 c.if-i-seen.false (pos_of_ne-zero c.if-p-eq0.false)
    (omega (arith, c.slice_known-1.given (s.p.0 / 32))) c.if-x-w.false
