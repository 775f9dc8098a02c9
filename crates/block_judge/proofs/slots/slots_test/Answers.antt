-- `block_judge::slots::slots_test` meets its contract. What is left of the numbers passes where all of them do. Assumes nothing.
use mathlib.Core.Bool.{not}
use mathlib.Core.Path.{◌≡◌, ap, ◌∙◌}
use Prim.Native.Nat.{ℕ, ◌+◌, ◌*◌}
use native.Mathlib.Omega.{arith}
use Rattle.walk.specs.Finite.{all}
use Rattle.common.proofs.Chains.{fails, passes}
use Rattle.block_memory.proofs.Loops.{left, all_end}
use Rattle.block_judge.proofs.Eights.{slot_or, part-fails, part-passes}
use Rattle.block_judge.proofs.slots.slots_test.Goals as goal

pub returns-then-not-structure_slots_test : goal.returns-then-not-structure_slots_test
returns-then-not-structure_slots_test c =
    let l = c.loop-k in
    let s = c.args in
    part-fails (slot_or s.m.now s.d) 136 8 (8 * l.k) (omega arith)
    (fails c.structure_slots_test.ensures (ap not c.if-not-structure_slots_test.true)) ∙ l.invariant

pub loop-k-preserved : goal.loop-k-preserved
loop-k-preserved c =
    let l = c.loop-k in
    let s = c.args in
    let next : 8 * (l.k + 1) ≡ 8 * l.k + 8 = omega arith in
    ap (λ (n : ℕ). all (slot_or s.m.now s.d) (left 136 n)) next
    ∙ part-passes (slot_or s.m.now s.d) 136 8 (8 * l.k) (omega arith)
    (passes c.structure_slots_test.ensures (ap not c.if-not-structure_slots_test.false)) ∙ l.invariant

pub returns : goal.returns
returns c =
    let l = c.loop-k in
    let s = c.args in
    all_end (slot_or s.m.now s.d) 136 (8 * l.k) (omega arith) ∙ l.invariant
