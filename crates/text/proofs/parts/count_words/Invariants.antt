-- `text::parts::count_words` meets its contract. The words passed and those left make the whole. The measure is what is left of the line. Assumes nothing.
use mathlib.Core.Path.{◌≡◌}
use Prim.Native.Nat.{◌+◌, ◌-◌, ◌≤◌}
use lib.ListN.{length, drop}
use Rattle.text.specs.Text.{split}
use Rattle.text.proofs.parts.count_words.Given as goal

abbrev pub invariant-loop-word : goal.invariant-loop-word
invariant-loop-word l = (l.i ≤ length l.s) × (l.n ≤ l.i) × (l.n + length (split (drop l.i l.s)) ≡ length (split l.s))

abbrev pub decreases-loop-word : goal.decreases-loop-word
decreases-loop-word l = length l.s - l.i
