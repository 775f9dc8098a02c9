-- The walk over the used places of a table meets its contract. Assumes nothing.
use Prim.Native.Nat.{◌+◌}
use native.Mathlib.Omega.{arith}
use lib.ListN.{length}
use Rattle.tally.specs.Rows.{used}
use Rattle.tally.proofs.Laws.Search.{next_low, next-high, next_here}
use Rattle.tally.proofs.rows.UsedIterator.next.Goals as goal

pub invariant_of-self : goal.invariant_of-self
invariant_of-self c =
    let w = c.args.self.now in
    let s = w.words.now in
    record {
      inside = next-high (used s) (length s) (w.at + 1) (omega (arith, w.inside)) c.next_word-self.ensures;
      here = next_here (used s) (length s) (w.at + 1) (omega (arith, w.inside)) c.next_word-self.ensures;
    }

pub returns-clause-goes : goal.returns-clause-goes
returns-clause-goes c =
    let w = c.args.self.now in
    let s = w.words.now in
    let low = next_low (used s) (length s) (w.at + 1) c.next_word-self.ensures in
    record { on = λ f. (tt, tt, omega (arith, low, w.inside, c.if-i-self.false)); keeps = tt; rests = λ f. tt }
