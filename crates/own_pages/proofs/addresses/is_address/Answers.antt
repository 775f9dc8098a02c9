-- `own_pages::addresses::is_address` meets its contract. Assumes nothing.
use mathlib.Core.Path.{refl, ap, ◌∙◌}
use Prim.Native.Nat.{ℕ, ◌*◌}
use Rattle.own_pages.proofs.Laws.Indices.{address_by_index}
use Rattle.own_pages.proofs.Laws.Tests.{same-eqb}
use Rattle.own_pages.proofs.addresses.is_address.Goals as goal

pub returns : goal.returns
returns c = same-eqb refl (ap (λ (x : ℕ). 4 * x) c.index.ensures.0 ∙ address_by_index c.args.b.bits c.args.p.0)
