-- `pages::addresses::place` meets its contract. The field of the lowest b + 2 bits is the place. Assumes nothing.
use mathlib.Core.Path.{ap, ◌∙◌}
use Prim.Native.Nat.{ℕ, ◌%◌}
use Rattle.memory.proofs.Widths.{bytes-is}
use Rattle.pages.proofs.addresses.place.Goals as goal

pub returns : goal.returns
returns c = c.low.ensures ∙ ap (λ (x : ℕ). c.args.a % x) (bytes-is c.args.b.bits)
