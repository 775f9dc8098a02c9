-- A call of a sequence that stands whole. Assumes nothing.
use mathlib.Core.Path.{◌≡◌}
use mathlib.Core.Bool.{true}
use mathlib.Core.List.{List}
use Prim.Native.Nat.{ℕ, ◌≤◌}
use borrow.Author.Tests.{leb-true}
use lib.Dec.{leb}
use lib.ListN.{length, get_or}
use Rattle.common.specs.Sequence.{end_at, whole}
use Rattle.common.proofs.Chains.{both}

module _ (counts : List ℕ) (most : ℕ) (ws : List ℕ) (i : ℕ) where
  -- what a whole call gives: its number is known, and its words are there
  pub whole_parts : whole counts most ws i ≡ true → (get_or ws i 0 ≤ most) × (end_at counts ws i ≤ length ws)
  whole_parts w =
      let p = both (leb (get_or ws i 0) most) (leb (end_at counts ws i) (length ws)) w in
      (leb-true (get_or ws i 0) most p.0, leb-true (end_at counts ws i) (length ws) p.1)
