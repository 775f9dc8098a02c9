-- `block_layout::searches::lowest_in` meets its contract: the search of what is left finds what the search of all finds. Assumes nothing.
use Rattle.std.proofs.Common.{◌≡◌, ℕ, ◌+◌, ◌*◌, ap, ◌∙◌, arith}
use Rattle.block_memory.specs.Partition.{lowest}
use Rattle.block_memory.proofs.Loops.{left, lowest-stop, lowest-next, lowest-end}
use Rattle.block_layout.proofs.Finding.{there_and, there_tested, leap}
use Rattle.block_layout.proofs.searches.lowest_in.Goals.{then-structure-ne0+else-loop-n-test, else-structure-ne0}
use Rattle.block_layout.proofs.searches.lowest_in.Goals as goal

pub returns-then-passes : goal.returns-then-passes
returns-then-passes g c f h =
    let p = c.loop-n in
    let s = c.args in
    lowest-stop (there_and s.m.now s.d f) 136 p.n (omega arith)
    (there_tested s.m.now s.d f c.loop-k.k c.structure.ensures p.n (omega arith) (omega arith)
    c.if-structure-ne0.true (h p.n _ c.passes.ensures) ∙ c.if-passes.true)
    ∙ p.invariant f h

pub loop-n-preserved : goal.loop-n-preserved
loop-n-preserved g c f h =
    let p = c.loop-n in
    let s = c.args in
    lowest-next (there_and s.m.now s.d f) 136 p.n (omega arith)
    (there_tested s.m.now s.d f c.loop-k.k c.structure.ensures p.n (omega arith) (omega arith)
    c.if-structure-ne0.true (h p.n _ c.passes.ensures) ∙ c.if-passes.false)
    ∙ p.invariant f h

pub loop-k-preserved : goal.loop-k-preserved
loop-k-preserved g c f h =
    let s = c.args in
    let find : ℕ → ℕ = λ n. lowest (there_and s.m.now s.d f) (left 136 n) in
    elim c.if-structure-ne0.branch [
      | then-structure-ne0+else-loop-n-test w ↦ let here : 8 * (c.loop-k.k + 1) ≡ w.loop-n.n = omega arith in ap find here ∙ w.loop-n.invariant f h
      | else-structure-ne0 w ↦ leap s.m.now s.d f c.loop-k.k c.structure.ensures (omega arith) w.if-structure-ne0.false ∙ c.loop-k.invariant f h
    ]

pub returns : goal.returns
returns g c f h =
    let s = c.args in
    lowest-end (there_and s.m.now s.d f) 136 (8 * c.loop-k.k) (omega arith) ∙ c.loop-k.invariant f h
