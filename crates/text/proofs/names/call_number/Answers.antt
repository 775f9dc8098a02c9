-- `text::names::call_number` meets its contract. First by its name, then by its number. Assumes nothing.
use mathlib.Core.Bool.{not}
use mathlib.Core.Path.{sym, ap, ◌∙◌}
use native.Mathlib.Omega.{arith}
use borrow.Author.Tests.{not-true, not-false}
use Rattle.rules.specs.Replay.{known_call}
use Rattle.script.proofs.Walks.{known?}
use Rattle.text.proofs.Called.{by_name, no_call, no-known, by_number}
use Rattle.text.proofs.names.call_number.Goals as goal

pub returns-in-Some : goal.returns-in-Some
returns-in-Some c = let e = c.in-Some.ensures in (by_name c.args.w.now c.in-Some.k e.0 (omega (arith, e.1)), e.1)

pub returns-then-not-is_number : goal.returns-then-not-is_number
returns-then-not-is_number c =
    (no_call c.args.w.now 0 c.in-None.ensures.0 (omega arith) (sym c.is_number.ensures ∙ not-true _ (ap not c.if-not-is_number.true)), tt)

pub number-k-requires : goal.number-k-requires
number-k-requires c = sym c.is_number.ensures ∙ not-false _ (ap not c.if-not-is_number.false)

pub returns-then-known_call : goal.returns-then-known_call
returns-then-known_call c =
    let known = sym c.known_call.ensures ∙ c.if-known_call.true in (
      c.number-k.ensures
          ∙ by_number c.args.w.now 0 c.in-None.ensures.0 (omega arith) (sym c.is_number.ensures ∙ not-false _ (ap not c.if-not-is_number.false))
          (ap known_call (sym c.number-k.ensures) ∙ known),
      (known? c.number-k.result).0 known,
    )

pub returns-else-known_call : goal.returns-else-known_call
returns-else-known_call c = (
  no-known c.args.w.now 0 c.in-None.ensures.0 (omega arith) (sym c.is_number.ensures ∙ not-false _ (ap not c.if-not-is_number.false))
      (ap known_call (sym c.number-k.ensures) ∙ sym c.known_call.ensures ∙ c.if-known_call.false),
  tt,
)
