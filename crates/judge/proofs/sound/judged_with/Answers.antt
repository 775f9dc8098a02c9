-- `judge::sound::judged_with` meets its contract. Assumes nothing.
use mathlib.Core.Bool.{not}
use mathlib.Core.Path.{ap, ◌∙◌}
use mathlib.Core.List.{List}
use mathlib.Core.Option.{Option}
use Prim.Native.Nat.{ℕ}
use Rattle.memory.specs.Counts.{children}
use Rattle.memory.specs.Geometry.{most_depth}
use Rattle.walk.specs.Marks.{Seen}
use Rattle.walk.specs.Walk as W
use Rattle.judging.specs.Quick.{partition_test, quick_test}
use Rattle.soundness.specs.Test.{own, judged, under}
use Rattle.own_pages.proofs.Laws.Tests.{yes, no}
use Rattle.tally.proofs.Laws.Bits.{start-marks}
use Rattle.judge.proofs.sound.judged_with.Goals as goal

-- the walk from the root, over the marks s
abbrev judge : ℕ → List ℕ → Seen → Option Seen
judge b m s = W.judge (children b m) (own b m) (partition_test b m) most_depth s 1

pub returns-then-not-root_test : goal.returns-then-not-root_test
unfolding quick_test
returns-then-not-root_test c = rw (c.requires.header, no c.root_test.ensures (ap not c.if-not-root_test.true))

pub tree_test-requires : goal.tree_test-requires
tree_test-requires c =
    let h = c.requires in
    record { outside = (start-marks c.mark_outside.ensures c.pages.ensures h.clear).0 }

pub returns-then-not-tree_test : goal.returns-then-not-tree_test
unfolding quick_test
returns-then-not-tree_test c =
    let h = c.requires in
    let a = c.args in
    let root-test = c.root_test in
    let first = c.if-not-root_test in
    let mark-outside = c.mark_outside in
    let n = c.pages in
    let tree = c.tree_test.ensures
    ∙ ap (λ (s : Seen). judged a.b.bits a.m.now (judge a.b.bits a.m.now s)) (start-marks mark-outside.ensures n.ensures h.clear).1 in
    rw (h.header, yes root-test.ensures (ap not first.false), no tree (ap not c.if-not-tree_test.true))

pub returns : goal.returns
unfolding quick_test
returns c =
    let h = c.requires in
    let a = c.args in
    let root-test = c.root_test in
    let first = c.if-not-root_test in
    let mark-outside = c.mark_outside in
    let n = c.pages in
    let tree = c.tree_test.ensures
    ∙ ap (λ (s : Seen). judged a.b.bits a.m.now (judge a.b.bits a.m.now s)) (start-marks mark-outside.ensures n.ensures h.clear).1 in
    rw (h.header, yes root-test.ensures (ap not first.false), yes tree (ap not c.if-not-tree_test.false))
    (c.under.ensures ∙ ap (under a.b.bits a.m.now most_depth) c.current.ensures)
