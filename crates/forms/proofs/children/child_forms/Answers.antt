-- `forms::children::child_forms` meets its contract. Assumes nothing.
use mathlib.Core.Bool.{not}
use mathlib.Core.Path.{sym, ap, ◌∙◌}
use native.Mathlib.Omega.{arith}
use borrow.Author.Tests.{le-leb, lt-leb}
use Rattle.memory.specs.Geometry.{most_threes}
use Rattle.memory.specs.Partition.{threes}
use Rattle.own_pages.proofs.Laws.Tests.{yes, no}
use Rattle.forms.proofs.Laws.Whole.{child_as}
use Rattle.forms.proofs.children.child_forms.Goals as goal

pub returns-then-n-gt10 : goal.returns-then-n-gt10
returns-then-n-gt10 c = rw (lt-leb (threes c.args.b.bits c.args.m.now c.args.c.0) most_threes (omega arith))

pub returns-then-not-child_names : goal.returns-then-not-child_names
returns-then-not-child_names c = rw (child_as c.args.b.bits c.args.m.now c.args.d.0 c.args.v c.args.c.0, le-leb (threes c.args.b.bits c.args.m.now c.args.c.0) most_threes (omega arith), no c.child_names.ensures (ap not c.if-not-child_names.true))

pub returns-else-pairs_shut : goal.returns-else-pairs_shut
returns-else-pairs_shut c =
    let b = c.args.b.bits in
    let m = c.args.m.now in
    let o = c.look_up-o.ensures in
    let first = rw (o.0, o.1, o.2) at c.pairs_shut.ensures in
    rw (child_as b m c.args.d.0 c.args.v c.args.c.0, le-leb (threes b m c.args.c.0) most_threes (omega arith), yes c.child_names.ensures (ap not c.if-not-child_names.false), sym first ∙ c.if-pairs_shut.false)
    c.if-pairs_shut.false

pub returns-then-pairs_shut : goal.returns-then-pairs_shut
returns-then-pairs_shut c =
    let b = c.args.b.bits in
    let m = c.args.m.now in
    let o = c.look_up-o.ensures in
    let first = rw (o.0, o.1, o.2) at c.pairs_shut.ensures in
    let second = rw (o.0, o.1, o.2, c.list.ensures, c.threes-n.ensures) at c.pairs_shut-then-pairs_shut.ensures in
    rw (child_as b m c.args.d.0 c.args.v c.args.c.0, le-leb (threes b m c.args.c.0) most_threes (omega arith), yes c.child_names.ensures (ap not c.if-not-child_names.false), sym first ∙ c.if-pairs_shut.true)
    second
