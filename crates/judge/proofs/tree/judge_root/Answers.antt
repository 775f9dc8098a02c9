-- `judge::tree::judge_root` meets its contract. Assumes nothing.
use mathlib.Core.Bool.{not}
use mathlib.Core.Path.{ap, ◌∙◌}
use Rattle.tally.specs.Bits.{marks_in}
use Rattle.judge.proofs.Laws.Tree.{alone-no, cells-no, cells-yes, no-child}
use Rattle.judge.proofs.tree.judge_root.Goals as goal

pub returns-in_default : goal.returns-in_default
returns-in_default c = let s = c.args in alone-no s.b.bits s.m.now _ _ 1 c.in_default.ensures.0

pub returns-then-not-cells_test : goal.returns-then-not-cells_test
returns-then-not-cells_test c =
    let s = c.args in
    cells-no s.b.bits s.m.now _ _ 1 c.in-Some.ensures.1.0 c.cells_test.ensures (ap not c.if-not-cells_test.true)

pub returns-then-t-eq0 : goal.returns-then-t-eq0
returns-then-t-eq0 c =
    let s = c.args in
    let seen = marks_in c.judge_alone.new.seen in
    let alone = c.in-Some.ensures in
    cells-yes s.b.bits s.m.now _ _ 1 alone.1.0 c.cells_test.ensures (ap not c.if-not-cells_test.false) seen alone.0
    ∙ no-child s.b.bits s.m.now _ seen 1 alone.1.1 c.if-t-eq0.true

pub returns : goal.returns
returns c =
    let s = c.args in
    let alone = c.in-Some.ensures in
    cells-yes s.b.bits s.m.now _ _ 1 alone.1.0 c.cells_test.ensures (ap not c.if-not-cells_test.false) (marks_in c.judge_alone.new.seen) alone.0
    ∙ c.judge_children.ensures
