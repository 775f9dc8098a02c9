-- `tally::rows::used_places` meets its contract. Assumes nothing.
use native.Mathlib.Omega.{arith}
use lib.ListN.{length}
use Rattle.tally.specs.Rows.{used}
use Rattle.tally.proofs.Laws.Search.{next-high, next_here}
use Rattle.tally.proofs.rows.used_places.Goals as goal

pub invariant_of-result : goal.invariant_of-result
invariant_of-result c =
    let s = c.args.words.now in
    record {
      inside = next-high (used s) (length s) 0 (omega arith) c.next_word.ensures;
      here = next_here (used s) (length s) 0 (omega arith) c.next_word.ensures;
    }
