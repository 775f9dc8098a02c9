-- `tally::rows::next_word` meets its contract. Assumes nothing.
use Prim.Native.Nat.{ℕ, ◌+◌, ◌-◌, ◌≤◌, ◌<◌}
use mathlib.Core.Path.{◌≡◌, refl, sym, ap, ◌∙◌}
use mathlib.Core.List.{List}
use mathlib.Core.Bool.{not}
use mathlib.Core.Logic.{◌≢◌}
use native.Mathlib.Omega.{arith}
use lib.ListN.{length, get_or}
use borrow.Author.Tests.{eq-eqb, ne_eqb}
use Rattle.tally.specs.Search.{seek}
use Rattle.tally.specs.Rows.{used}
use Rattle.tally.proofs.Laws.Search.{seek-on, seek-here, seek-end}
use Rattle.tally.proofs.Laws.Blocks.{empty-end, empty-past}
use Rattle.tally.proofs.rows.next_word.Invariants.{Come}
use Rattle.tally.proofs.rows.next_word.Goals as goal

module _ (s : List ℕ) (i j : ℕ) (h : Come s i j) where
  at-end : length s ≤ j → j ≡ seek (used s) (length s - i) i
  at-end l = sym (h.1 ∙ seek-end (used s) (length s) j l)

  at-word : j < length s → get_or s j 0 ≢ 0 → j ≡ seek (used s) (length s - i) i
  at-word l n = sym (h.1 ∙ seek-here (used s) (length s) j l (ap not (ne_eqb (get_or s j 0) 0 n)))

  past_word : j < length s → get_or s j 0 ≡ 0 → Come s i (j + 1)
  past_word l e = (omega arith, h.1 ∙ seek-on (used s) (length s) j l (ap not (eq-eqb (get_or s j 0) 0 e)))

pub loop-j-init : goal.loop-j-init
loop-j-init c = (c.requires, refl)

pub returns-then-j-n : goal.returns-then-j-n
returns-then-j-n c =
    let s = c.args in
    let p = c.loop-j in
    at-end s.s.now s.i p.j p.invariant (omega arith)

pub returns-then-s-j-ne0 : goal.returns-then-s-j-ne0
returns-then-s-j-ne0 c =
    let s = c.args in
    let p = c.loop-j in
    at-word s.s.now s.i p.j p.invariant (omega arith) c.if-s-j-ne0.true

pub loop-j-preserved : goal.loop-j-preserved
loop-j-preserved c =
    let s = c.args in
    let p = c.loop-j in
    past_word s.s.now s.i p.j p.invariant (omega arith) c.if-s-j-ne0.false

pub loop-j-2-init : goal.loop-j-2-init
loop-j-2-init c = c.loop-j.invariant

pub loop-j-2-smaller : goal.loop-j-2-smaller
loop-j-2-smaller c =
    let s = c.args in
    let p = c.loop-j-2 in
    let e = sym c.block_of.ensures ∙ c.loop-j-2-test.true in
    omega (arith, empty-end (length s.s.now) p.j s.s.now (omega arith) e)

pub loop-j-2-preserved : goal.loop-j-2-preserved
loop-j-2-preserved c =
    let s = c.args in
    let p = c.loop-j-2 in
    let told = c.block_of.ensures in (
      empty-end (length s.s.now) p.j s.s.now (omega arith) (sym told ∙ c.loop-j-2-test.true),
      p.invariant.1 ∙ empty-past (length s.s.now) p.j s.s.now (omega arith) told c.loop-j-2-test.true,
    )

pub loop-k-init : goal.loop-k-init
loop-k-init c = c.loop-j-2.invariant

pub returns-then-s-k-ne0 : goal.returns-then-s-k-ne0
returns-then-s-k-ne0 c =
    let s = c.args in
    let p = c.loop-k in
    at-word s.s.now s.i p.k p.invariant (omega arith) c.if-s-k-ne0.true

pub loop-k-preserved : goal.loop-k-preserved
loop-k-preserved c =
    let s = c.args in
    let p = c.loop-k in
    past_word s.s.now s.i p.k p.invariant (omega arith) c.if-s-k-ne0.false

pub returns : goal.returns
returns c =
    let s = c.args in
    let p = c.loop-k in
    let e : p.k ≡ length s.s.now = omega arith in
    sym e ∙ at-end s.s.now s.i p.k p.invariant (omega arith)
