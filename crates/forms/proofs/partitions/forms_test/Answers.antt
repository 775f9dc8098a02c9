-- `forms::partitions::forms_test` meets its contract. Assumes nothing.
use mathlib.Core.Bool.{not}
use mathlib.Core.Path.{ap}
use Rattle.own_pages.proofs.Laws.Tests.{yes, no}
use Rattle.forms.proofs.Laws.Whole.{forms_as}
use Rattle.forms.proofs.partitions.forms_test.Goals as goal

pub returns-then-not-descriptor_test : goal.returns-then-not-descriptor_test
returns-then-not-descriptor_test c = rw (no c.descriptor_test.ensures (ap not c.if-not-descriptor_test.true))

pub returns-then-not-list_test : goal.returns-then-not-list_test
returns-then-not-list_test c =
    let s = c.args in
    let o = c.look_up-own.ensures in
    let listed = rw (o.0, o.1, o.2) at c.list_test.ensures in
    rw (forms_as s.b.bits s.m.now s.d.0, yes c.descriptor_test.ensures (ap not c.if-not-descriptor_test.false), no listed (ap not c.if-not-list_test.true))

pub invariant_of-indices_test : goal.invariant_of-indices_test
invariant_of-indices_test c = record { passed = yes c.list_test.ensures (ap not c.if-not-list_test.false) }

pub returns : goal.returns
returns c =
    let s = c.args in
    let b = s.b.bits in
    let m = s.m.now in
    let o = c.look_up-own.ensures in
    let described = yes c.descriptor_test.ensures (ap not c.if-not-descriptor_test.false) in
    let listed = rw (o.0, o.1, o.2) at c.list_test.ensures in
    let indices = rw (o.0, o.1, o.2) at c.indices_test.ensures in
    rw (forms_as b m s.d.0, described, yes listed (ap not c.if-not-list_test.false)) indices
