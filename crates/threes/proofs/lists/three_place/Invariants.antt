-- `threes::lists::three_place` meets its contract. The places passed have another table. Assumes nothing.
use mathlib.Core.Path.{◌≡◌}
use Prim.Native.Nat.{◌-◌}
use Rattle.rules.specs.Effects.{place_of}
use Rattle.threes.proofs.lists.three_place.Given as goal

abbrev pub invariant-loop-j : goal.invariant-loop-j
invariant-loop-j l = place_of l.b.bits (l.n - l.j) l.j l.m l.l.0 l.a ≡ place_of l.b.bits l.n 0 l.m l.l.0 l.a
