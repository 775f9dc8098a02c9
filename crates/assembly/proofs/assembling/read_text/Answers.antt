-- `assembly::assembling::read_text` meets its contract. The lines left decide as all of them do. The measure is the text left. Assumes nothing.
use mathlib.Core.Path.{refl, sym, ◌∙◌}
use native.Mathlib.Omega.{arith}
use borrow.Author.Rules.{rules}
use Rattle.assembly.proofs.Runs.{blank-line, no-pages, pages, no_lines}
use Rattle.assembly.proofs.assembling.read_text.Goals as goal

pub loop-i-init : goal.loop-i-init
loop-i-init c = (refl, search rules, search rules, search rules)

pub returns-in_default : goal.returns-in_default
returns-in_default c =
    let n = c.count_words.ensures.0 in (
      rw c.number.ensures (no-pages c.args.text.now _ c.line_at-line.ensures _ c.in_default.ensures.0 (λ q. c.if-count_words-ne0.true (n ∙ q)) refl ∙ c.loop-i.invariant.0),
      search rules,
    )

pub read_calls-requires : goal.read_calls-requires
read_calls-requires c =
    let l = c.line_at-line.ensures in record {
      text_len_bound = (c.requires.text_len_bound, omega (arith, l.within), omega (arith, l.after, l.order));
      room = search rules;
    }

pub returns-then-count_words-ne0 : goal.returns-then-count_words-ne0
returns-then-count_words-ne0 c =
    let n = c.count_words.ensures.0 in
    let p = c.in-Some.ensures in
    let r = c.read_calls.ensures in (
      r.0 ∙ pages c.args.text.now _ c.line_at-line.ensures _ p.0 (λ q. c.if-count_words-ne0.true (n ∙ q)) (omega (arith, p.1)) ∙ c.loop-i.invariant.0,
      r.1,
    )

pub loop-i-smaller : goal.loop-i-smaller
loop-i-smaller c = let l = c.line_at-line.ensures in omega (arith, l.after, l.order, l.within)

pub loop-i-preserved : goal.loop-i-preserved
loop-i-preserved c =
    let l = c.line_at-line.ensures in (
      blank-line c.args.text.now _ l (sym c.count_words.ensures.0 ∙ c.if-count_words-ne0.false) ∙ c.loop-i.invariant.0,
      omega (arith, l.within),
      omega (arith, l.after, l.order),
      search rules,
    )

pub returns : goal.returns
returns c = (rw c.number-2.ensures (no_lines c.args.text.now c.loop-i.i c.loop-i.k (omega arith) ∙ c.loop-i.invariant.0), search rules)
