-- `pages::widths::page_words` meets its contract. The shift is a power of two that fits. Assumes nothing.
use native.Mathlib.Omega.{arith}
use Rattle.memory.proofs.Widths.{one_shl, words-most}
use Rattle.pages.proofs.widths.page_words.Goals as goal

pub returns : goal.returns
returns c =
    let e = one_shl c.args.b.bits c.args.b.known.1 in
    (e, omega (arith, words-most c.args.b.bits c.args.b.known.1))
