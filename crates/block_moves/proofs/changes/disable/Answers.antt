-- `block_moves::changes::disable` meets its contract: the entries that are left, changed in the memory as it is, give what all give. Assumes nothing.
use mathlib.Core.Path.{◌≡◌, ap, ◌∙◌}
use mathlib.Core.List.{List}
use Prim.Native.Nat.{ℕ, ◌+◌}
use native.Mathlib.Omega.{arith}
use Rattle.block_memory.specs.Words.{over}
use Rattle.block_memory.proofs.Loops.{left, over-next, over-end}
use Rattle.block_rules.specs.Effects
use Rattle.block_moves.proofs.Disabling.{disabled}
use Rattle.block_moves.proofs.changes.disable.Goals.{then-entry-n, else-entry-n}
use Rattle.block_moves.proofs.changes.disable.Goals as goal

pub loop-e-preserved : goal.loop-e-preserved
loop-e-preserved c =
    let s = c.args in
    let p = c.loop-e in
    let f = disabled s.d s.n in
    let changed : c.if-entry-n.m ≡ f p.m p.e = elim c.if-entry-n.branch [ then-entry-n w ↦ grind arith | else-entry-n w ↦ grind arith ] in
    ap (λ (x : List ℕ). over f x (left 9 (p.e + 1))) changed ∙ over-next f 9 p.e p.m (omega arith) ∙ p.invariant

pub returns : goal.returns
unfolding Effects.disable
returns c =
    let s = c.args in
    let p = c.loop-e in
    over-end (disabled s.d s.n) 9 p.e p.m (omega arith) ∙ p.invariant
