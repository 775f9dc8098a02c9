-- `block_making::deleting::wipe_gone` meets its contract: the partitions that are left, in the memory as it is, give what all give. Assumes nothing.
use mathlib.Core.Path.{◌≡◌, ap, ◌∙◌}
use mathlib.Core.List.{List}
use Prim.Native.Nat.{ℕ, ◌+◌}
use native.Mathlib.Omega.{arith}
use lib.ListN.{get_or, drop}
use Rattle.block_memory.specs.Words.{over}
use Rattle.block_rules.specs.Effects.{wipe_partition}
use Rattle.block_making.specs.Deleting.{passing}
use Rattle.block_making.proofs.Marking.{passed, changed}
use Rattle.block_making.proofs.Turns.{turn, last_turn}
use Rattle.block_making.proofs.deleting.wipe_gone.Goals.{then-t-ne0, else-t-ne0}
use Rattle.block_making.proofs.deleting.wipe_gone.Goals as goal

pub loop-t-preserved : goal.loop-t-preserved
loop-t-preserved c =
    let ts = c.args.ts.now in
    let p = c.loop-t in
    let f : List ℕ → ℕ → List ℕ = passing wipe_partition in
    let t = get_or ts p.t-index 0 in
    let e : c.if-t-ne0.m ≡ f p.m t = elim c.if-t-ne0.branch [
      | then-t-ne0 w ↦ w.m-is ∙ w.wipe_partition.ensures ∙ changed wipe_partition p.m t w.if-t-ne0.true
      | else-t-ne0 w ↦ w.m-is ∙ passed wipe_partition p.m t w.if-t-ne0.false
    ] in
    ap (λ (w : List ℕ). over f w (drop (p.t-index + 1) ts)) e ∙ turn f p.m ts p.t-index (omega arith) ∙ p.invariant

pub returns : goal.returns
returns c =
    let p = c.loop-t in
    last_turn (passing wipe_partition) p.m c.args.ts.now p.t-index (omega arith) ∙ p.invariant
