-- `formatting::filling::format_page` meets its contract. The words passed are those of the page, and those behind them as they were, 0.
-- Assumes nothing.
use mathlib.Core.Path.{◌∙◌}
use native.Mathlib.Omega.{arith}
use lib.ListN.{length-set}
use borrow.Author.Rules.{rules}
use Rattle.memory.proofs.Widths.{words-most}
use Rattle.memory.specs.Format.{format_word}
use Rattle.formatting.proofs.FillLaws.{fill_none, fill_more, fill-rest}
use Rattle.formatting.proofs.SizeLaws.{few_threes}
use Rattle.formatting.proofs.filling.format_page.Goals as goal

pub words_used-requires : goal.words_used-requires
words_used-requires c =
    let z = c.args.z.now in
    (c.requires.pages.0, omega (arith, few_threes z.width.bits z.pages z.width.known.1 c.requires.pages.1, z.counted))

pub loop-i-init : goal.loop-i-init
loop-i-init c = (fill_none _ _, search rules)

pub overflow_cast-i : goal.overflow_cast-i
overflow_cast-i c = let z = c.args.z.now in omega (arith, words-most z.width.bits z.width.known.1)

pub loop-i-preserved : goal.loop-i-preserved
loop-i-preserved c =
    let z = c.args.z.now in
    let p = c.loop-i in (
      fill_more (format_word z.width.bits z.pages c.args.p.0) c.args.s.now p.s p.i c.format_word.result (omega arith) p.invariant.0 c.format_word.ensures,
      length-set p.s p.i c.format_word.result ∙ p.invariant.1,
    )

pub returns : goal.returns
returns c =
    let z = c.args.z.now in
    let p = c.loop-i in
    p.invariant.0
    ∙ fill-rest 0 p.i (format_word z.width.bits z.pages c.args.p.0) c.args.s.now (omega arith) c.requires.wiped
    (λ j k l. c.words_used.ensures z.width.bits j z.counted (omega arith))
