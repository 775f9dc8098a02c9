-- `text::numbers::value` meets its contract. The value so far with the digits left is the whole. Assumes nothing.
use mathlib.Core.Path.{◌≡◌}
use mathlib.Core.Bool.{true}
use Prim.Native.Nat.{◌^◌, ◌<◌}
use lib.ListN.{drop}
use Rattle.text.specs.Numbers.{all_digits, value}
use Rattle.text.proofs.numbers.value.Given as goal

abbrev pub invariant-loop-x : goal.invariant-loop-x
invariant-loop-x l = (value l.v (drop l.x-index l.w) ≡ value 0 l.w) × (all_digits (drop l.x-index l.w) ≡ true) × (l.v < 10 ^ l.x-index)
