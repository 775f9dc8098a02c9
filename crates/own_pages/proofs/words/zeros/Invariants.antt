-- `own_pages::words::zeros` meets its contract. Assumes nothing.
use mathlib.Core.Path.{◌≡◌}
use mathlib.Core.Bool.{◌&&◌}
use Prim.Native.Nat.{◌-◌}
use lib.Dec.{eqb}
use lib.ListN.{get_or}
use Rattle.walk.specs.Finite.{from, all}
use Rattle.own_pages.proofs.words.zeros.Given as goal

abbrev pub invariant-loop-i : goal.invariant-loop-i
invariant-loop-i l = all (λ k. eqb (get_or l.m k 0) 0) (from (l.e - l.a) l.a) ≡ eqb l.joined 0 && all (λ k. eqb (get_or l.m k 0) 0) (from (l.e - l.i) l.i)
