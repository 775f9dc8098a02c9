-- `assembly::assembling::read_text` meets its contract. The lines left decide as all of them do. The measure is the text left. Assumes nothing.
use mathlib.Core.Path.{◌≡◌}
use Prim.Native.Nat.{◌+◌, ◌-◌, ◌≤◌}
use lib.ListN.{length, drop}
use Rattle.assembly.specs.Assembled.{begin}
use Rattle.text.specs.Text.{lines}
use Rattle.assembly.proofs.assembling.read_text.Given as goal

abbrev pub invariant-loop-i : goal.invariant-loop-i
invariant-loop-i l = (begin l.k (lines (drop l.i l.text)) ≡ begin 1 (lines l.text)) × (l.i ≤ length l.text + 1) × (l.k ≤ l.i + 1) × (length l.out ≡ length l.initial.out)

abbrev pub decreases-loop-i : goal.decreases-loop-i
decreases-loop-i l = length l.text + 1 - l.i
