-- `forms::indices::next_row` meets its contract. Assumes nothing.
use Prim.Native.Nat.{◌+◌, ◌*◌}
use Rattle.own_pages.specs.Asked.{Skipped}
use Rattle.forms.proofs.indices.next_row.Given as goal

abbrev pub invariant-loop-row : goal.invariant-loop-row
invariant-loop-row l = Skipped l.o.width.bits l.o.words.now l.o.descriptor.0 l.i (l.i + 8 * l.row)
