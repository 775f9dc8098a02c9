-- `pages::words::index` meets its contract. The shift is a product that fits, with room for the place. Assumes nothing.
use mathlib.Core.Path.{ap}
use Prim.Native.Nat.{ℕ, ◌+◌}
use native.Mathlib.Omega.{arith}
use Rattle.memory.proofs.Widths.{page_shl, page-start-lt}
use Rattle.pages.proofs.words.index.Goals as goal

pub overflow_add-result : goal.overflow_add-result
overflow_add-result c = omega (arith, page_shl c.args.b.bits c.args.p.0 c.args.b.known.1 (omega arith), page-start-lt c.args.b.bits c.args.p.0 c.args.b.known.1 (omega arith))

pub returns : goal.returns
returns c =
    let e = page_shl c.args.b.bits c.args.p.0 c.args.b.known.1 (omega arith) in
    (ap (λ (x : ℕ). x + c.args.i) e, omega (arith, page-start-lt c.args.b.bits c.args.p.0 c.args.b.known.1 (omega arith)))
