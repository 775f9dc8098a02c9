-- `assembly::calls::put_numbers` meets its contract. The numbers put and those left make the whole. The measure is what is left of the line. Assumes nothing.
use mathlib.Core.Path.{◌≡◌}
use Prim.Native.Nat.{◌-◌, ◌≤◌}
use lib.ListN.{length}
use Rattle.assembly.proofs.Records.{Putting}
use Rattle.assembly.proofs.calls.put_numbers.Given as goal

abbrev pub invariant-loop-word : goal.invariant-loop-word
invariant-loop-word l = Putting l.s l.initial.out l.out l.at l.to l.i × (l.i ≤ length l.s) × (length l.out ≡ length l.initial.out)

abbrev pub decreases-loop-word : goal.decreases-loop-word
decreases-loop-word l = length l.s - l.i
