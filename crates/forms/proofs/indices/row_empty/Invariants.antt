-- `forms::indices::row_empty` meets its contract. Assumes nothing.
use mathlib.Core.Path.{◌≡◌}
use mathlib.Core.Bool.{◌&&◌}
use Prim.Native.Nat.{◌+◌, ◌-◌}
use lib.Dec.{eqb}
use Rattle.walk.specs.Finite.{from, all}
use Rattle.own_pages.specs.Asked.{no_tables}
use Rattle.forms.proofs.indices.row_empty.Given as goal

abbrev pub invariant-loop-k : goal.invariant-loop-k
invariant-loop-k l = let f = no_tables l.o.width.bits l.o.words.now l.o.descriptor.0 in all f (from 8 l.i) ≡ eqb l.joined 0 && all f (from (l.i + 8 - l.k) l.k)
