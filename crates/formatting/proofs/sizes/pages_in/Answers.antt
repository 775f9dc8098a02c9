-- `formatting::sizes::pages_in` meets its contract. The divisor is the words of a page. Assumes nothing.
use mathlib.Core.Path.{ap}
use Prim.Native.Nat.{ℕ, ◌/◌}
use native.Mathlib.Omega.{arith}
use lib.ListN.{length}
use lib.Pow.{pow_pos}
use Rattle.formatting.proofs.sizes.pages_in.Goals as goal

pub nonzero_div-result : goal.nonzero_div-result
nonzero_div-result c = omega (arith, c.page_words.ensures.0, pow_pos c.args.b.bits)

pub returns : goal.returns
returns c = ap (λ (w : ℕ). length c.args.m.now / w) c.page_words.ensures.0
