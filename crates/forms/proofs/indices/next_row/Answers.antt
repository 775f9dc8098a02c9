-- `forms::indices::next_row` meets its contract. Assumes nothing.
use mathlib.Core.Bool.{not}
use mathlib.Core.Path.{◌≡◌, ap, subst}
use Prim.Native.Nat.{◌+◌, ◌*◌}
use native.Mathlib.Omega.{arith}
use Rattle.own_pages.specs.Asked.{Skipped}
use Rattle.own_pages.proofs.Laws.Asked.{skip-none, skip_by}
use Rattle.own_pages.proofs.Laws.Tests.{yes}
use Rattle.forms.proofs.indices.next_row.Goals as goal

pub loop-row-init : goal.loop-row-init
loop-row-init c =
    let o = c.args.o.now in
    let e : c.args.i ≡ c.args.i + 8 * 0 = omega arith in
    subst (Skipped o.width.bits o.words.now o.descriptor.0 c.args.i) e (skip-none o.width.bits o.words.now o.descriptor.0 c.args.i c.requires.start)

pub returns-then-not-row_empty : goal.returns-then-not-row_empty
returns-then-not-row_empty c = c.loop-row.invariant

pub loop-row-preserved : goal.loop-row-preserved
loop-row-preserved c =
    let o = c.args.o.now in
    let p = c.loop-row in
    let e : c.args.i + 8 * p.row + 8 ≡ c.args.i + 8 * (p.row + 1) = omega arith in
    subst (Skipped o.width.bits o.words.now o.descriptor.0 c.args.i) e
    (skip_by o.width.bits o.words.now o.descriptor.0 8 p.invariant (omega arith) (yes c.row_empty.ensures (ap not c.if-not-row_empty.false)))
