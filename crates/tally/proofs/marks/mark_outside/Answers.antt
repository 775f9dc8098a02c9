-- `tally::marks::mark_outside` meets its contract: a word past the end is not written. Assumes nothing.
use mathlib.Core.Path.{sym, ap}
use native.Mathlib.Omega.{arith}
use Prim.Native.Nat.{◌/◌, ◌%◌}
use lib.ListN.{set}
use lib.Pow.{pow_pos}
use lib.Seq.{set_out}
use Rattle.pages.proofs.Laws.{one_bit}
use Rattle.tally.proofs.marks.mark_outside.Goals as goal

pub returns-then-i-seen : goal.returns-then-i-seen
returns-then-i-seen c = let s = c.args in sym (set_out s.seen.now _ _ c.if-i-seen.true)

pub overflow_sub-seen : goal.overflow_sub-seen
overflow_sub-seen c = let n = c.args.n in omega (arith, one_bit (n % 32) (omega arith), pow_pos (n % 32))

pub returns : goal.returns
returns c =
    let s = c.args in
    ap (set s.seen.now (s.n / 32)) (omega (arith, one_bit (s.n % 32) (omega arith), pow_pos (s.n % 32)))
