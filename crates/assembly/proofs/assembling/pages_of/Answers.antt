-- `assembly::assembling::pages_of` meets its contract. Each test is one of the definition. Assumes nothing.
use mathlib.Core.Bool.{not}
use mathlib.Core.Path.{sym, ap, ◌∙◌}
use borrow.Author.Tests.{not-true, not-false}
use Rattle.assembly.proofs.Pages.{no_word, more-words, no_number, too_small, too_large, is-pages}
use Rattle.assembly.proofs.assembling.pages_of.Goals as goal

pub returns-in_err-word : goal.returns-in_err-word
returns-in_err-word c = rw c.from_residual.ensures (no_word c.args.s.now c.in_err-word.ensures, tt)

pub returns-then-count_words-ne0 : goal.returns-then-count_words-ne0
returns-then-count_words-ne0 c =
    let n = c.in_ok-word.ensures in
    (more-words c.args.s.now n.0 n.1 _ c.count_words.ensures.0 c.if-count_words-ne0.true, tt)

pub returns-then-not-is_number : goal.returns-then-not-is_number
returns-then-not-is_number c =
    let n = c.in_ok-word.ensures in (
      no_number c.args.s.now n.0 n.1 _ c.count_words.ensures.0 c.if-count_words-ne0.false (sym c.is_number.ensures ∙ not-true _ (ap not c.if-not-is_number.true)),
      tt,
    )

pub number-n-requires : goal.number-n-requires
number-n-requires c = sym c.is_number.ensures ∙ not-false _ (ap not c.if-not-is_number.false)

pub returns-then-n-lt16 : goal.returns-then-n-lt16
returns-then-n-lt16 c =
    let n = c.in_ok-word.ensures in (
      too_small c.args.s.now n.0 n.1 _ c.count_words.ensures.0 c.if-count_words-ne0.false (sym c.is_number.ensures ∙ not-false _ (ap not c.if-not-is_number.false))
          _ c.number-n.ensures c.if-n-lt16.true,
      tt,
    )

pub returns-then-n-gt256 : goal.returns-then-n-gt256
returns-then-n-gt256 c =
    let n = c.in_ok-word.ensures in (
      too_large c.args.s.now n.0 n.1 _ c.count_words.ensures.0 c.if-count_words-ne0.false (sym c.is_number.ensures ∙ not-false _ (ap not c.if-not-is_number.false))
          _ c.number-n.ensures c.if-n-lt16.false c.if-n-gt256.true,
      tt,
    )

pub returns : goal.returns
returns c =
    let n = c.in_ok-word.ensures in (
      is-pages c.args.s.now n.0 n.1 _ c.count_words.ensures.0 c.if-count_words-ne0.false (sym c.is_number.ensures ∙ not-false _ (ap not c.if-not-is_number.false))
          _ c.number-n.ensures c.if-n-lt16.false c.if-n-gt256.false,
      c.if-n-lt16.false,
    )
