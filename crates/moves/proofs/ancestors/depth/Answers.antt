-- `moves::ancestors::depth` meets its contract. The partitions passed and the depth of the one that is reached come to the depth. Assumes nothing.
use mathlib.Core.Path.{sym, ap, ◌∙◌}
use Prim.Native.Nat.{ℕ, ◌+◌, ◌-◌}
use native.Mathlib.Omega.{arith}
use Rattle.rules.specs.Moves.{depth}
use Rattle.moves.proofs.Walks.{depth-root, depth-up, depth-end}
use Rattle.moves.proofs.ancestors.depth.Goals as goal

pub returns-then-par-eq0 : goal.returns-then-par-eq0
returns-then-par-eq0 c =
    let s = c.args in
    let p = c.loop-k in
    omega (arith, p.invariant, depth-root s.b.bits s.m.now p.d.0 s.n p.k (omega arith) (sym c.parent-par.ensures ∙ c.if-par-eq0.true))

pub loop-k-preserved : goal.loop-k-preserved
loop-k-preserved c =
    let parent = c.parent-par in
    let s = c.args in
    let p = c.loop-k in
    ap (λ (x : ℕ). p.k + 1 + depth s.b.bits (s.n - (p.k + 1)) s.m.now x) parent.ensures
    ∙ sym (depth-up s.b.bits s.m.now p.d.0 s.n p.k (omega arith) (λ q. c.if-par-eq0.false (parent.ensures ∙ q)))
    ∙ p.invariant

pub returns : goal.returns
returns c =
    let s = c.args in
    let p = c.loop-k in
    omega (arith, p.invariant, depth-end s.b.bits s.m.now p.d.0 s.n p.k (omega arith))
