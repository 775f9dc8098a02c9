-- `judge::children::next_child` meets its contract. Assumes nothing.
use mathlib.Core.Path.{sym, ◌∙◌}
use native.Mathlib.Omega.{arith}
use lib.ListN.{get_or}
use Rattle.tally.specs.Rows.{child_words}
use Rattle.tally.proofs.Laws.Search.{seek-on, seek-here, seek-end}
use Rattle.tally.proofs.Laws.Blocks.{childless_past}
use Rattle.judge.proofs.children.next_child.Goals as goal

pub loop-j-preserved-then-block_of : goal.loop-j-preserved-then-block_of
loop-j-preserved-then-block_of c =
    let h = c.requires in
    let s = c.args in
    let p = c.loop-j in
    p.invariant ∙ childless_past s.n p.j s.s1.now (omega (arith, h)) s.pt.now c.block_of.ensures c.if-block_of.true

pub returns-then-is_child : goal.returns-then-is_child
returns-then-is_child c =
    let s = c.args in
    let p = c.loop-j in
    sym (p.invariant ∙ seek-here (λ k. child_words (get_or s.pt.now k 0) (get_or s.s1.now k 0)) s.n p.j (omega arith) (sym c.is_child.ensures ∙ c.if-is_child.true))

pub loop-j-preserved : goal.loop-j-preserved
loop-j-preserved c =
    let s = c.args in
    let p = c.loop-j in
    p.invariant ∙ seek-on (λ k. child_words (get_or s.pt.now k 0) (get_or s.s1.now k 0)) s.n p.j (omega arith) (sym c.is_child.ensures ∙ c.if-is_child.false)

pub returns : goal.returns
returns c =
    let s = c.args in
    let p = c.loop-j in
    sym (p.invariant ∙ seek-end (λ k. child_words (get_or s.pt.now k 0) (get_or s.s1.now k 0)) s.n p.j c.loop-j-test.false)
