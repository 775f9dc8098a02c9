-- `assembly::calls::readable` meets its contract. The tests are made in the order of the definition. Assumes nothing.
use mathlib.Core.Bool.{not}
use mathlib.Core.Path.{refl, sym, ap, ◌∙◌}
use native.Mathlib.Omega.{arith}
use lib.ListN.{length}
use borrow.Author.Tests.{not-true, not-false}
use Rattle.rules.specs.Replay.{argument_count}
use Rattle.text.specs.Text.{split}
use Rattle.assembly.proofs.Reasons.{unknown, few, many, others, long, none}
use Rattle.assembly.proofs.calls.readable.Goals as goal

pub returns-in_default : goal.returns-in_default
returns-in_default c =
    let s = c.args in
    unknown s.at s.w.now (split s.s.now) 0 (argument_count 0) (length (split s.s.now)) c.in_default.ensures.0 refl refl refl

pub returns-then-given-most : goal.returns-then-given-most
returns-then-given-most c =
    let s = c.args in
    few s.at s.w.now (split s.s.now) _ _ _ c.in-Some.ensures.0 c.argument_count-most.ensures.0 c.count_words-given.ensures.0
    (omega (arith, c.in-Some.ensures.1)) c.if-given-most.true

pub returns-then-most-given : goal.returns-then-most-given
returns-then-most-given c =
    let s = c.args in
    many s.at s.w.now (split s.s.now) _ _ _ c.in-Some.ensures.0 c.argument_count-most.ensures.0 c.count_words-given.ensures.0
    (omega (arith, c.in-Some.ensures.1)) c.if-most-given.true

pub returns-then-not-all_numbers : goal.returns-then-not-all_numbers
returns-then-not-all_numbers c =
    let s = c.args in
    others s.at s.w.now (split s.s.now) _ _ _ c.in-Some.ensures.0 c.argument_count-most.ensures.0 c.count_words-given.ensures.0
    (omega (arith, c.in-Some.ensures.1)) c.if-given-most.false c.if-most-given.false
    (sym c.all_numbers.ensures ∙ not-true _ (ap not c.if-not-all_numbers.true))

pub overflow_mul-given : goal.overflow_mul-given
overflow_mul-given c = omega (arith, c.argument_count-most.ensures.1, c.if-most-given.false)

pub overflow_add-at-2 : goal.overflow_add-at-2
overflow_add-at-2 c = omega (arith, c.argument_count-most.ensures.1, c.if-most-given.false)

pub returns-then-at-given-gt4096 : goal.returns-then-at-given-gt4096
returns-then-at-given-gt4096 c =
    let s = c.args in
    long s.at s.w.now (split s.s.now) _ _ _ c.in-Some.ensures.0 c.argument_count-most.ensures.0 c.count_words-given.ensures.0
    (omega (arith, c.in-Some.ensures.1)) c.if-given-most.false c.if-most-given.false
    (sym c.all_numbers.ensures ∙ not-false _ (ap not c.if-not-all_numbers.false)) c.if-at-given-gt4096.true

pub returns : goal.returns
returns c =
    let s = c.args in (
      c.in-Some.ensures.0,
      sym
          (none s.at s.w.now (split s.s.now) _ _ _ c.in-Some.ensures.0 c.argument_count-most.ensures.0 c.count_words-given.ensures.0
          (omega (arith, c.in-Some.ensures.1)) c.if-given-most.false c.if-most-given.false
          (sym c.all_numbers.ensures ∙ not-false _ (ap not c.if-not-all_numbers.false)) c.if-at-given-gt4096.false),
    )
