-- `block_making::deleting::give_all_back` meets its contract: the blocks that are left, in the memory as it is, give what all give. Assumes nothing.
use mathlib.Core.Path.{ap, ◌∙◌}
use mathlib.Core.List.{List}
use Prim.Native.Nat.{ℕ, ◌+◌}
use native.Mathlib.Omega.{arith}
use lib.ListN.{drop}
use Rattle.block_memory.specs.Words.{over}
use Rattle.block_rules.specs.Effects.{give_back}
use Rattle.block_making.proofs.Turns.{turn, last_turn}
use Rattle.block_making.proofs.deleting.give_all_back.Goals as goal

pub loop-n-preserved : goal.loop-n-preserved
loop-n-preserved c =
    let s = c.args in
    let p = c.loop-n in
    let f : List ℕ → ℕ → List ℕ = λ w n. give_back w s.d n in
    ap (λ (w : List ℕ). over f w (drop (p.n-index + 1) s.ns.now)) c.give_back.ensures ∙ turn f p.m s.ns.now p.n-index (omega arith) ∙ p.invariant

pub returns : goal.returns
returns c =
    let s = c.args in
    let p = c.loop-n in
    last_turn (λ w n. give_back w s.d n) p.m s.ns.now p.n-index (omega arith) ∙ p.invariant
