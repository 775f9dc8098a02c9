-- `pages::sizes::threes_for` meets its contract. The quotient is the definition's, and fits. Assumes nothing.
use mathlib.Core.Path.{◌≡◌}
use Prim.Native.Nat.{◌+◌, ◌/◌}
use native.Mathlib.Omega.{arith}
use Rattle.memory.specs.Geometry.{threes_for}
use Rattle.pages.proofs.Fits.{threes-lt}
use Rattle.pages.proofs.sizes.threes_for.Goals as goal

pub overflow_cast-result : goal.overflow_cast-result
overflow_cast-result c =
    let s = c.args in
    let e : (c.from.result + (c.from-w.result + 2)) / (c.from-w.result + 3) ≡ threes_for s.b.bits s.n = rw (c.from.ensures, c.saturating_sub.ensures, c.from-w.ensures, c.page_words.ensures.0) in
    omega (arith, threes-lt s.b.bits s.n c.args.b.known.0 (omega arith))

pub returns : goal.returns
returns c =
    let s = c.args in
    let e : (c.from.result + (c.from-w.result + 2)) / (c.from-w.result + 3) ≡ threes_for s.b.bits s.n = rw (c.from.ensures, c.saturating_sub.ensures, c.from-w.ensures, c.page_words.ensures.0) in
    (e, omega (arith, threes-lt s.b.bits s.n c.args.b.known.0 (omega arith)))
