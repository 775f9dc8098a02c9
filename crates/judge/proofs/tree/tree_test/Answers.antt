-- `judge::tree::tree_test` meets its contract. Assumes nothing.
use mathlib.Core.Bool.{not}
use mathlib.Core.Path.{ap}
use mathlib.Core.Path.{sym, ◌∙◌}
use borrow.Author.Tests.{not-true, not-false}
use Rattle.walk.specs.Marks.{passed, failed}
use Rattle.memory.specs.Geometry.{most_depth}
use Rattle.tally.specs.Bits.{marks_in}
use Rattle.judge.proofs.Laws.Judged.{judged-no, judged-yes}
use Rattle.judge.proofs.Laws.Outside.{within-no, within-yes}
use Rattle.judge.proofs.tree.tree_test.Goals as goal

pub returns-then-not-judge_root : goal.returns-then-not-judge_root
returns-then-not-judge_root c =
    let s = c.args in
    let judge-root = c.judge_root in
    let h = c.requires in
    judged-no s.b.bits s.m.now
    (within-no _ s.seen.now h.outside _ _ _ _ _
    (failed _ judge-root.result (marks_in judge-root.new.seen) judge-root.ensures (not-true _ (ap not c.if-not-judge_root.true))))

pub returns : goal.returns
returns c =
    let s = c.args in
    let h = c.requires in
    let judge-root = c.judge_root in
    let w = within-yes _ s.seen.now h.outside _ _ _ most_depth 1
    judge-root.new.seen judge-root.auto.seen
    (passed _ judge-root.result (marks_in judge-root.new.seen) judge-root.ensures (not-false _ (ap not c.if-not-judge_root.false))) in
    c.all_marked.ensures ∙ sym (judged-yes s.b.bits s.m.now w.0 w.1 ∙ w.2)
