-- `block_making::wiping::wipe_structures` meets its contract: the places that are left, in the memory as it is, give what all give. Assumes nothing.
use mathlib.Core.Path.{◌≡◌, ap, ◌∙◌}
use mathlib.Core.List.{List}
use Prim.Native.Nat.{ℕ, ◌+◌}
use native.Mathlib.Omega.{arith}
use lib.ListN.{get_or, drop}
use Rattle.block_memory.specs.Words
use Rattle.block_memory.specs.Words.{over}
use Rattle.block_memory.specs.Partition
use Rattle.block_making.proofs.Turns.{length-all, turn, last_turn}
use Rattle.block_making.proofs.Marking.{passed, changed}
use Rattle.block_making.proofs.Gone.{wiped}
use Rattle.block_making.proofs.wiping.wipe_structures.Invariants.{wipe_at}
use Rattle.block_making.proofs.wiping.wipe_structures.Goals.{then-s-ne0, else-s-ne0}
use Rattle.block_making.proofs.wiping.wipe_structures.Goals as goal

pub loop-s-preserved : goal.loop-s-preserved
loop-s-preserved c =
    let p = c.loop-s in
    let at = c.structures-s-items in
    let n = length-all (Partition.structure c.args.m.now c.args.t) 1 16 at.ensures in
    let f : List ℕ → ℕ → List ℕ = λ w i. Words.wipe w i 74 in
    let s = get_or at.result p.s-index 0 in
    let e : c.if-s-ne0.m ≡ wipe_at p.m s = elim c.if-s-ne0.branch [
      | then-s-ne0 w ↦ w.m-is ∙ w.wipe.ensures ∙ changed f p.m s w.if-s-ne0.true
      | else-s-ne0 w ↦ w.m-is ∙ passed f p.m s w.if-s-ne0.false
    ] in
    ap (λ (w : List ℕ). over wipe_at w (drop (p.s-index + 1) at.result)) e ∙ turn wipe_at p.m at.result p.s-index (omega arith) ∙ p.invariant

pub returns : goal.returns
returns c =
    let s = c.args in
    let p = c.loop-s in
    let at = c.structures-s-items in
    let n = length-all (Partition.structure s.m.now s.t) 1 16 at.ensures in
    last_turn wipe_at p.m at.result p.s-index (omega arith) ∙ p.invariant ∙ wiped s.m.now s.t at.ensures
