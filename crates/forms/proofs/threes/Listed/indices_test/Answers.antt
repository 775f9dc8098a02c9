-- `forms::threes::Listed::indices_test` meets its contract. Assumes nothing.
use mathlib.Core.Bool.{not}
use mathlib.Core.Path.{refl, sym, ap, ◌∙◌}
use mathlib.Core.List.{List}
use Prim.Native.Nat.{ℕ}
use native.Mathlib.Omega.{arith}
use lib.Dec.{eqb}
use lib.ListN.{get_or, replicate}
use borrow.Author.Tests.{not-true, not-false}
use Rattle.walk.specs.Finite.{from, all}
use Rattle.memory.specs.Geometry.{page_words}
use Rattle.forms.proofs.Laws.Met.{told_as, left-start, left-skip, left_end}
use Rattle.forms.proofs.Laws.Whole.{list-few}
use Rattle.forms.proofs.threes.Listed.indices_test.Goals as goal

pub loop-next-init : goal.loop-next-init
loop-next-init c =
    let o = c.args.self.now.own in
    let met : List ℕ = replicate {A = ℕ} 10 0 in (
      refl,
      told_as c.next_used-next.result c.next_used-next.ensures (left-skip o.width.bits o.words.now o.descriptor.0 met)
          (λ r (l, s). (l, left-skip o.width.bits o.words.now o.descriptor.0 met s)),
    )

pub index_test-requires : goal.index_test-requires
index_test-requires c =
    let o = c.args.self.now.own in
    let p = rw c.in-Some.is at c.loop-next.invariant.1 in
    record { index = p.0; room = omega (arith, c.loop-next.invariant.0, o.counted, list-few o.width.bits o.words.now o.descriptor.0 c.args.self.now.passed) }

pub returns-then-not-index_test : goal.returns-then-not-index_test
returns-then-not-index_test c =
    let o = c.args.self.now.own in
    let p = rw c.in-Some.is at c.loop-next.invariant.1 in
    let few = list-few o.width.bits o.words.now o.descriptor.0 c.args.self.now.passed in
    sym
    (sym (left-start o.width.bits o.words.now o.descriptor.0 few) ∙ p.1 ∙ c.index_test.ensures
    ∙ rw (not-true c.index_test.result (ap not c.if-not-index_test.true)) refl)

pub loop-next-preserved : goal.loop-next-preserved
loop-next-preserved c =
    let o = c.args.self.now.own in
    let p = rw c.in-Some.is at c.loop-next.invariant.1 in
    let met = c.index_test.new.met in
    let passed = p.1 ∙ c.index_test.ensures ∙ rw (not-false c.index_test.result (ap not c.if-not-index_test.false)) refl in (
      c.index_test.auto.met ∙ c.loop-next.invariant.0,
      told_as c.next_used-next-in-Some.result c.next_used-next-in-Some.ensures
          (λ s. passed ∙ left-skip o.width.bits o.words.now o.descriptor.0 met s) (λ r (l, s). (l, passed ∙ left-skip o.width.bits o.words.now o.descriptor.0 met s)),
    )

pub all_met-requires : goal.all_met-requires
all_met-requires c =
    let o = c.args.self.now.own in
    omega (arith, c.loop-next.invariant.0, o.counted, list-few o.width.bits o.words.now o.descriptor.0 c.args.self.now.passed)

pub returns : goal.returns
returns c =
    let o = c.args.self.now.own in
    let m = c.loop-next.met in
    let p = rw c.in_default.is at c.loop-next.invariant.1 in
    c.all_met.ensures ∙ ap (λ (n : ℕ). all (λ j. eqb (get_or m j 0) 1) (from n 0)) o.counted
    ∙ sym (left_end o.width.bits o.words.now o.descriptor.0 m (page_words o.width.bits) (omega arith)) ∙ sym p
    ∙ left-start o.width.bits o.words.now o.descriptor.0 (list-few o.width.bits o.words.now o.descriptor.0 c.args.self.now.passed)
