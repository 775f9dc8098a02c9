-- `deleting::releases::release_run` meets its contract. To release the pages left is to release them all. Assumes nothing.
use mathlib.Core.Path.{◌≡◌}
use Prim.Native.Nat.{◌+◌, ◌-◌}
use Rattle.rules.specs.Effects.{release_all}
use Rattle.deleting.proofs.releases.release_run.Given as goal

abbrev pub invariant-loop-k : goal.invariant-loop-k
invariant-loop-k l = release_all l.b.bits (l.n - l.k) (l.fn.v.0 + l.k) l.m l.d.0 l.c ≡ release_all l.b.bits l.n l.fn.v.0 l.initial.m l.d.0 l.c
