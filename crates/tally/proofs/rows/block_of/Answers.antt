-- `tally::rows::block_of` meets its contract. Assumes nothing.
use mathlib.Core.Bool.{not}
use mathlib.Core.Path.{◌≡◌, ap, ◌∙◌}
use Prim.Native.Nat.{ℕ, ◌+◌, ◌-◌}
use native.Mathlib.Omega.{arith}
use lib.Dec.{eqb}
use lib.ListN.{take, drop}
use Rattle.walk.specs.Lists.{count}
use Rattle.own_pages.proofs.Laws.Tests.{yes, no}
use Rattle.tally.proofs.Laws.Blocks.{block-told}
use Rattle.tally.proofs.rows.block_of.Goals as goal

pub returns-then-not-block_at : goal.returns-then-not-block_at
returns-then-not-block_at c = rw (no c.block_at.ensures (ap not c.if-not-block_at.true))

pub offset_bounds-s-i : goal.offset_bounds-s-i
offset_bounds-s-i c =
    let s = c.args in omega (arith, block-told s.n s.i c.block_at.ensures (ap not c.if-not-block_at.false))

pub slice_bounds-count_of-end : goal.slice_bounds-count_of-end
slice_bounds-count_of-end c =
    let s = c.args in omega (arith, c.requires, block-told s.n s.i c.block_at.ensures (ap not c.if-not-block_at.false))

pub returns : goal.returns
returns c =
    let s = c.args in
    let e : s.i + 8 - s.i ≡ 8 = omega arith in
    rw (yes c.block_at.ensures (ap not c.if-not-block_at.false))
    (ap (λ (k : ℕ). eqb k s.k) (c.count_of.ensures ∙ ap (λ (k : ℕ). count s.x (take k (drop s.i s.s.now))) e))
