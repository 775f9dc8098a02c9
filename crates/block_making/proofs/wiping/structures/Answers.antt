-- `block_making::wiping::structures` meets its contract: as many places are filled as were passed. Assumes nothing.
use mathlib.Core.Path.{◌≡◌, ap, ◌∙◌}
use Prim.Native.Nat.{◌+◌, ◌<◌}
use native.Mathlib.Omega.{arith}
use lib.ListN.{replicate}
use Rattle.block_memory.specs.Partition
use Rattle.block_making.proofs.Turns.{fill_none, fill_more, fill-all}
use Rattle.block_making.proofs.wiping.structures.Goals as goal

pub loop-i-init : goal.loop-i-init
loop-i-init c = let s = c.args in fill_none (Partition.structure s.m.now s.t) 1 (replicate 16 0)

pub loop-i-preserved : goal.loop-i-preserved
loop-i-preserved c =
    let s = c.args in
    let p = c.loop-i in
    let f = Partition.structure s.m.now s.t in
    let h : p.i < 16 = omega arith in
    let z : p.i + 1 ≡ 1 + p.i = omega arith in
    fill_more f 1 p.i (replicate 16 0) h p.invariant (c.structure.ensures ∙ ap f z)

pub returns : goal.returns
returns c =
    let s = c.args in
    let p = c.loop-i in
    fill-all (Partition.structure s.m.now s.t) 1 p.i (replicate 16 0) (omega arith) p.invariant
