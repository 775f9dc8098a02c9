-- `pages::addresses::bad_page` meets its contract. The bytes of a page are the unit. Assumes nothing.
use mathlib.Core.Path.{ap, ◌∙◌}
use Prim.Native.Nat.{ℕ}
use Rattle.rules.specs.Conditions.{bad_address}
use Rattle.pages.proofs.addresses.bad_page.Goals as goal

pub returns : goal.returns
returns c =
    let s = c.args in
    c.bad_address.ensures ∙ ap (λ (u : ℕ). bad_address s.b.bits u s.a) c.page_bytes.ensures.0
