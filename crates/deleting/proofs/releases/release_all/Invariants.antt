-- `deleting::releases::release_all` meets its contract. To release the tables left, from the memory as it is, is to release them all. Assumes nothing.
use mathlib.Core.Path.{◌≡◌}
use Rattle.rules.proofs.Releases.{release_from}
use Rattle.deleting.proofs.releases.release_all.Given as goal

abbrev pub invariant-loop-i : goal.invariant-loop-i
invariant-loop-i l = release_from l.b.bits l.d.0 l.c l.i l.m ≡ release_from l.b.bits l.d.0 l.c 0 l.initial.m
