-- `assembly::assembling::read_calls` meets its contract. The records so far and the lines left make the whole. The measure is the text left. Assumes nothing.
use mathlib.Core.Path.{◌≡◌}
use mathlib.Core.List.{[]}
use Prim.Native.Nat.{◌+◌, ◌-◌, ◌≤◌}
use lib.ListN.{length, drop}
use Rattle.assembly.specs.Assembled.{calls}
use Rattle.text.specs.Text.{lines}
use Rattle.assembly.proofs.Runs.{Reading}
use Rattle.assembly.proofs.assembling.read_calls.Given as goal

abbrev pub invariant-loop-i : goal.invariant-loop-i
invariant-loop-i l =
    Reading l.text l.initial.out l.out l.n (calls l.n l.line 0 [] (lines (drop l.first l.text))) l.i l.k l.count l.at × (l.i ≤ length l.text + 1) × (l.k ≤ l.i + 1) × (l.count ≤ l.i) × (l.at ≤ 4096) ×
    (length l.out ≡ length l.initial.out)

abbrev pub decreases-loop-i : goal.decreases-loop-i
decreases-loop-i l = length l.text + 1 - l.i
