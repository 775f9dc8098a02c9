-- `judge::partitions::judge_alone` meets its contract. Assumes nothing.
use mathlib.Core.Bool.{not}
use mathlib.Core.Path.{ap, ◌∙◌}
use borrow.Author.Tests.{not-true, not-false}
use Rattle.walk.specs.Marks.{passed, failed}
use Rattle.tally.specs.Bits.{marks_in}
use Rattle.judge.specs.Alone.{alone_test}
use Rattle.judge.proofs.Laws.Tree.{alone-bad, alone-unmarked, alone-marked}
use Rattle.tally.proofs.Laws.Marks.{own-no, own-yes}
use Rattle.judge.proofs.Laws.Order.{unformed, few, tested}
use Rattle.own_pages.proofs.Laws.Tests.{yes, no}
use Rattle.judge.proofs.partitions.judge_alone.Goals as goal

pub returns-then-not-forms_test : goal.returns-then-not-forms_test
returns-then-not-forms_test c =
    let s = c.args in
    (alone-bad _ (unformed s.b.bits s.m.now s.d.0 c.forms_test.ensures (ap not c.if-not-forms_test.true)), tt)

pub mark_kernel-requires : goal.mark_kernel-requires
mark_kernel-requires c =
    let s = c.args in
    record { few = few s.b.bits s.m.now s.d.0 c.forms_test.ensures (ap not c.if-not-forms_test.false) }

pub returns-then-not-mark_kernel : goal.returns-then-not-mark_kernel
returns-then-not-mark_kernel c =
    let mark-kernel = c.mark_kernel in
    let s = c.args in
    let kernel = failed _ mark-kernel.result (marks_in mark-kernel.new.seen) mark-kernel.ensures (not-true _ (ap not c.if-not-mark_kernel.true)) in
    (alone-unmarked (alone_test s.b.bits s.m.now s.d.0) (own-no s.b.bits s.m.now s.d.0 (marks_in s.seen.now) kernel), tt)

pub returns-in_err-t : goal.returns-in_err-t
returns-in_err-t c =
    let mark-kernel = c.mark_kernel in
    let s = c.args in
    let kernel = passed _ mark-kernel.result (marks_in mark-kernel.new.seen) mark-kernel.ensures (not-false _ (ap not c.if-not-mark_kernel.false)) in
    let own = own-yes s.b.bits s.m.now s.d.0 (marks_in s.seen.now) (marks_in mark-kernel.new.seen) kernel ∙ c.in_err-t.ensures.0 in
    rw c.from_residual.ensures (alone-unmarked (alone_test s.b.bits s.m.now s.d.0) own, tt)

pub returns-then-not-tables_test : goal.returns-then-not-tables_test
returns-then-not-tables_test c =
    let s = c.args in
    let counts = c.in_ok-t.ensures.1 in
    let test = tested s.b.bits s.m.now s.d.0 c.forms_test.ensures (ap not c.if-not-forms_test.false) counts.1 counts.2 c.tables_test.ensures in
    (alone-bad _ (no test (ap not c.if-not-tables_test.true)), tt)

pub returns : goal.returns
returns c =
    let mark-kernel = c.mark_kernel in
    let s = c.args in
    let kernel = passed _ mark-kernel.result (marks_in mark-kernel.new.seen) mark-kernel.ensures (not-false _ (ap not c.if-not-mark_kernel.false)) in
    let swept = c.in_ok-t.ensures in
    let test = tested s.b.bits s.m.now s.d.0 c.forms_test.ensures (ap not c.if-not-forms_test.false) swept.1.1 swept.1.2 c.tables_test.ensures in (
      alone-marked (yes test (ap not c.if-not-tables_test.false))
          (own-yes s.b.bits s.m.now s.d.0 (marks_in s.seen.now) (marks_in mark-kernel.new.seen) kernel ∙ swept.0),
      (swept.1.0, swept.1.2),
    )
