-- `block_judge::slots::structure_slots_test` meets its contract: the numbers that are left of the eight pass where all of them do. Assumes nothing.
use mathlib.Core.Path.{◌∙◌}
use mathlib.Core.Path.{ap}
use mathlib.Core.Bool.{not}
use Prim.Native.Nat.{◌+◌, ◌*◌}
use Rattle.common.proofs.Chains.{fails, passes}
use native.Mathlib.Omega.{arith}
use Rattle.block_memory.proofs.Loops.{all-stop, all-next, all_end}
use Rattle.block_judge.proofs.Eights.{slot_or, eight-left, none-there, at-number, slot-or}
use Rattle.block_judge.proofs.slots.structure_slots_test.Goals as goal

pub returns-then-s-eq0 : goal.returns-then-s-eq0
returns-then-s-eq0 c =
    let s = c.args in
    none-there s.m.now s.d s.k c.structure-s.ensures c.if-s-eq0.true

pub loop-n-init : goal.loop-n-init
loop-n-init c =
    let s = c.args in
    eight-left s.m.now s.d s.k

pub invariant_of-passes : goal.invariant_of-passes
invariant_of-passes c =
    let s = c.args in
    record { words = c.block_in-b.ensures s.d (at-number s.m.now s.d s.k c.structure-s.ensures c.loop-n.n (omega arith) (omega arith)) c.if-s-eq0.false }

pub returns-then-not-passes : goal.returns-then-not-passes
returns-then-not-passes c =
    let n = c.loop-n.n in
    let s = c.args in
    all-stop (slot_or s.m.now s.d) (8 * s.k + 8) n (omega arith)
    (slot-or s.m.now s.d s.k c.structure-s.ensures n (omega arith) (omega arith) c.if-s-eq0.false (fails c.passes.ensures (ap not c.if-not-passes.true)))
    ∙ c.loop-n.invariant

pub loop-n-preserved : goal.loop-n-preserved
loop-n-preserved c =
    let n = c.loop-n.n in
    let s = c.args in
    all-next (slot_or s.m.now s.d) (8 * s.k + 8) n (omega arith)
    (slot-or s.m.now s.d s.k c.structure-s.ensures n (omega arith) (omega arith) c.if-s-eq0.false (passes c.passes.ensures (ap not c.if-not-passes.false)))
    ∙ c.loop-n.invariant

pub returns : goal.returns
returns c =
    let s = c.args in
    all_end (slot_or s.m.now s.d) (8 * s.k + 8) c.loop-n.n (omega arith) ∙ c.loop-n.invariant
