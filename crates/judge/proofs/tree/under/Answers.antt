-- `judge::tree::under` meets its contract. Assumes nothing.
use mathlib.Core.Bool.{not}
use Prim.Native.Nat.{ℕ, ◌+◌, ◌-◌}
use mathlib.Core.Path.{◌≡◌, refl, sym, ap, ◌∙◌}
use native.Mathlib.Omega.{arith}
use Rattle.memory.specs.Partition.{parent}
use Rattle.soundness.specs.Test.{under}
use Rattle.judge.proofs.Laws.Tree.{under-root, under-not, under_up, under-end}
use Rattle.own_pages.proofs.Laws.Tests.{yes, no}
use Rattle.judge.proofs.tree.under.Goals as goal

pub loop-k-init : goal.loop-k-init
loop-k-init c = refl

pub returns-then-p-eq1 : goal.returns-then-p-eq1
returns-then-p-eq1 c =
    let s = c.args in
    let p = c.loop-k in
    under-root s.b.bits s.m.now (8 - p._k) p.p.0 c.if-p-eq1.true ∙ sym p.invariant

pub returns-then-not-placed : goal.returns-then-not-placed
returns-then-not-placed c =
    let s = c.args in
    let p = c.loop-k in
    under-not s.b.bits s.m.now (8 - p._k) p.p.0 (omega arith) c.if-p-eq1.false (no c.placed.ensures (ap not c.if-not-placed.true)) ∙ sym p.invariant

pub loop-k-preserved : goal.loop-k-preserved
loop-k-preserved c =
    let s = c.args in
    let p = c.loop-k in
    let left : 8 - p._k - 1 ≡ 8 - (p._k + 1) = omega arith in
    p.invariant ∙ under_up s.b.bits s.m.now (8 - p._k) p.p.0 (omega arith) c.if-p-eq1.false (yes c.placed.ensures (ap not c.if-not-placed.false))
    ∙ ap (λ (n : ℕ). under s.b.bits s.m.now n (parent s.b.bits s.m.now p.p.0)) left ∙ ap (under s.b.bits s.m.now (8 - (p._k + 1))) (sym c.parent-p.ensures)

pub returns : goal.returns
returns c =
    let s = c.args in
    sym (c.loop-k.invariant ∙ under-end s.b.bits s.m.now (8 - c.loop-k._k) c.loop-k.p.0 (omega arith))
