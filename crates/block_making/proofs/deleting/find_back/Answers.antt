-- `block_making::deleting::find_back` meets its contract: the numbers so far and those that are left of all are the numbers of all. Assumes nothing.
use mathlib.Core.Path.{◌≡◌, ap, ◌∙◌}
use mathlib.Core.List.{[]}
use Prim.Native.Nat.{ℕ, ◌+◌, ◌*◌}
use native.Mathlib.Omega.{arith}
use lib.ListN.{length-set, take}
use Rattle.block_memory.specs.Partition.{numbers}
use Rattle.block_memory.specs.Words.{over}
use Rattle.block_memory.proofs.Loops.{left, over-end}
use Rattle.block_rules.specs.Effects.{of_child}
use Rattle.block_making.proofs.Gone.{leap}
use Rattle.block_making.proofs.Listing.{behind, listed, list_on, list-off}
use Rattle.block_making.proofs.deleting.find_back.Goals.{then-of_child, else-of_child, then-structure-ne0+else-loop-n-test, else-structure-ne0}
use Rattle.block_making.proofs.deleting.find_back.Goals as goal

pub loop-k-init : goal.loop-k-init
loop-k-init c = let s = c.args in (listed (of_child s.m.now s.d s.c) [] numbers, omega arith, omega arith)

pub loop-n-preserved : goal.loop-n-preserved
loop-n-preserved c =
    let p = c.loop-n in
    let s = c.args in
    let f = of_child s.m.now s.d s.c in
    elim c.if-of_child.branch [
      | then-of_child w ↦ rw (w.r-is, w.out-is) (
        list_on f 136 p.n (omega arith) c.of_child.ensures w.if-of_child.true p.r p.out (omega arith) ∙ p.invariant.0,
        omega arith,
        length-set p.out p.r p.n ∙ p.invariant.2,
      )
      | else-of_child w ↦ rw (w.r-is, w.out-is) (
        list-off f 136 p.n (omega arith) c.of_child.ensures w.if-of_child.false (take p.r p.out) ∙ p.invariant.0,
        omega arith,
        p.invariant.2,
      )
    ]

pub loop-k-preserved : goal.loop-k-preserved
loop-k-preserved c =
    let s = c.args in
    let p = c.loop-k in
    let f = of_child s.m.now s.d s.c in
    elim c.if-structure-ne0.branch [
      | then-structure-ne0+else-loop-n-test w ↦
          let q = w.loop-n in
          let here : 8 * (p.k + 1) ≡ q.n = omega arith in
          rw (w.r-is, w.out-is) (ap (λ (n : ℕ). over (behind f) (take q.r q.out) (left 136 n)) here ∙ q.invariant.0, omega arith, q.invariant.2)
      | else-structure-ne0 w ↦ rw (w.r-is, w.out-is) (
        leap s.m.now s.d s.c p.k c.structure.ensures w.if-structure-ne0.false (omega arith) (take p.r p.out) ∙ p.invariant.0,
        omega arith,
        p.invariant.2,
      )
    ]

pub returns : goal.returns
returns c =
    let p = c.loop-k in
    let s = c.args in
    over-end (behind (of_child s.m.now s.d s.c)) 136 (8 * p.k) (take p.r p.out) (omega arith) ∙ p.invariant.0
