-- `transcripts::turns::transcribe` meets its contract. What is printed and what is left of the script make the whole. Assumes nothing.
use mathlib.Core.Path.{◌≡◌}
use Prim.Native.Nat.{◌-◌, ◌≤◌}
use lib.ListN.{length}
use Rattle.script.proofs.Replays.{Walking}
use Rattle.transcripts.proofs.turns.transcribe.Given as goal

abbrev pub invariant-loop-k : goal.invariant-loop-k
invariant-loop-k l =
    Walking 6 l.bytes l.initial.out (l.count - l.k) l.i l.k l.at l.m l.out × (l.initial.at ≤ l.at) × (length l.m ≡ length l.initial.m) × (length l.out ≡ length l.initial.out)
