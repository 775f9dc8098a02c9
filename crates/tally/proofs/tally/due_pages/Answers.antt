-- `tally::tally::due_pages` meets its contract. Assumes nothing.
use Rattle.memory.specs.Partition.{threes}
use borrow.Author.Tests.{eq-eqb, ne_eqb}
use native.Mathlib.Omega.{arith}
use mathlib.Core.Path.{ap, ◌∙◌}
use Prim.Native.Nat.{ℕ, ◌+◌, ◌*◌}
use Rattle.tally.proofs.tally.due_pages.Goals as goal

pub returns-then-w-eq0 : goal.returns-then-w-eq0
returns-then-w-eq0 c = (rw (eq-eqb c.args.w 0 c.if-w-eq0.true), omega arith)

pub returns-then-x-ne1 : goal.returns-then-x-ne1
returns-then-x-ne1 c =
    let s = c.args in
    (rw (ne_eqb s.w 0 c.if-w-eq0.false, ne_eqb s.x 1 c.if-x-ne1.true), omega arith)

pub returns : goal.returns
returns c =
    let s = c.args in (
      rw (ne_eqb s.w 0 c.if-w-eq0.false, eq-eqb s.x 1 c.if-x-ne1.false)
          (ap (λ (k : ℕ). 5 + 3 * k) (c.from.ensures ∙ c.threes.ensures ∙ ap (threes s.b.bits s.m.now) c.page_of.ensures)),
      omega arith,
    )
