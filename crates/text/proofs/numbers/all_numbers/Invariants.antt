-- `text::numbers::all_numbers` meets its contract. The words left decide as all of them do. The measure is what is left of the line. Assumes nothing.
use mathlib.Core.Path.{◌≡◌}
use Prim.Native.Nat.{◌-◌, ◌≤◌}
use lib.ListN.{length, drop}
use Rattle.text.specs.Text.{split}
use Rattle.text.specs.Numbers.{all_numbers}
use Rattle.text.proofs.numbers.all_numbers.Given as goal

abbrev pub invariant-loop-word : goal.invariant-loop-word
invariant-loop-word l = (l.i ≤ length l.s) × (all_numbers (split l.s) ≡ all_numbers (split (drop l.i l.s)))

abbrev pub decreases-loop-word : goal.decreases-loop-word
decreases-loop-word l = length l.s - l.i
