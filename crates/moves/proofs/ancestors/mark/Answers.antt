-- `moves::ancestors::mark` meets its contract. What is left of the walk, from the partition that is reached, comes to the whole walk. Assumes nothing.
use mathlib.Core.Path.{◌≡◌, ap, ◌∙◌}
use Prim.Native.Nat.{ℕ, ◌+◌, ◌-◌}
use native.Mathlib.Omega.{arith}
use Rattle.rules.specs.Moves.{mark}
use Rattle.moves.proofs.Walks.{turn-root, turn_up, turn-none}
use Rattle.moves.proofs.ancestors.mark.Goals as goal

pub returns-then-par-eq0 : goal.returns-then-par-eq0
returns-then-par-eq0 c =
    let s = c.args in
    let p = c.loop in
    turn-root s.b.bits s.bit p.m c.set_mapping.new.m p.d.0 p.v c.mapping-w.result c.rights.result
    c.entry_of.result
    c.parent-par.result.0 (9 - p.counter) c.mapping-w.ensures c.rights.ensures c.entry_of.ensures c.set_mapping.ensures
    c.parent-par.ensures (omega arith) c.if-par-eq0.true
    ∙ p.invariant

pub loop-preserved : goal.loop-preserved
loop-preserved c =
    let s = c.args in
    let p = c.loop in
    let left : 9 - (p.counter + 1) ≡ 9 - p.counter - 1 = omega arith in
    ap (λ (n : ℕ). mark s.b.bits n s.bit c.set_mapping.new.m c.parent-par.result.0 c.above-up.result) left
    ∙ turn_up s.b.bits s.bit p.m c.set_mapping.new.m p.d.0 p.v c.mapping-w.result c.rights.result
    c.entry_of.result
    c.parent-par.result.0 (9 - p.counter) c.mapping-w.ensures c.rights.ensures c.entry_of.ensures c.set_mapping.ensures
    c.parent-par.ensures (omega arith) c.above-up.result c.above-up.ensures c.if-par-eq0.false
    ∙ p.invariant

pub returns : goal.returns
returns c =
    let s = c.args in
    let p = c.loop in
    turn-none s.b.bits s.bit p.m p.d.0 p.v (9 - p.counter) (omega arith) ∙ p.invariant
