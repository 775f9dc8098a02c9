-- `judge::tree::under` meets its contract. Assumes nothing.
use Prim.Native.Nat.{◌-◌}
use mathlib.Core.Path.{◌≡◌}
use Rattle.soundness.specs.Test.{under}
use Rattle.judge.proofs.tree.under.Given as goal

abbrev pub invariant-loop-k : goal.invariant-loop-k
invariant-loop-k l = under l.b.bits l.m 8 l.initial.p.0 ≡ under l.b.bits l.m (8 - l._k) l.p.0
