-- `common::sequences::run` meets its contract. What is left of the calls gives what is left of the run. The measure is the words that are left.
-- Assumes nothing.
use Prim.Native.Nat.{◌-◌, ◌≤◌}
use lib.ListN.{length}
use Rattle.common.proofs.Running.{Rest}
use Rattle.common.proofs.sequences.run.Given as goal

abbrev pub invariant-loop-e : goal.invariant-loop-e
invariant-loop-e g l =
    let k = g.K.Kernel in
    (l.n ≤ l.i) × (l.p ≤ length l.initial.answers) × (l.i ≤ length l.calls)
    × Rest k.counts k.most k.numbered k.places k.after k.reply_of l.calls l.initial.m l.initial.answers l.m l.answers l.n l.i l.p

abbrev pub decreases-loop-e : goal.decreases-loop-e
decreases-loop-e g l = length l.calls - l.i
