-- `tally::tally::lent_row` meets its contract. Assumes nothing.
use native.Mathlib.Omega.{arith}
use Rattle.memory.specs.Geometry.{page_words}
use Rattle.memory.proofs.Widths.{words-most}
use Rattle.tally.proofs.Laws.Blocks.{count_most}
use Rattle.tally.proofs.Laws.Counts.{count-zero, count-other}
use Rattle.tally.proofs.tally.lent_row.Goals as goal

pub count_of-k-requires : goal.count_of-k-requires
count_of-k-requires c = omega (arith, c.requires.short, words-most c.args.b.bits c.args.b.known.1)

pub overflow_add-result : goal.overflow_add-result
overflow_add-result c =
    let h = c.requires in
    let s = c.args in omega (arith, h.short, words-most s.b.bits s.b.known.1, c.page_words.ensures.0, c.count_of-k.ensures, count_most s.v s.s1.now)

pub returns-then-v-eq0 : goal.returns-then-v-eq0
returns-then-v-eq0 c =
    let h = c.requires in
    let s = c.args in count-zero s.s1.now (page_words s.b.bits) s.v h.short (words-most s.b.bits s.b.known.1) c.count_of-k.ensures c.if-v-eq0.true c.page_words.ensures.0

pub returns : goal.returns
returns c =
    let h = c.requires in
    let s = c.args in count-other s.s1.now (page_words s.b.bits) s.v h.short (words-most s.b.bits s.b.known.1) c.count_of-k.ensures c.if-v-eq0.false
