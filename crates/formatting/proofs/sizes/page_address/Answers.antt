-- `formatting::sizes::page_address` meets its contract. The address of a page that is not far up fits. Assumes nothing.
use native.Mathlib.Omega.{arith}
use Rattle.formatting.proofs.SizeLaws.{near_address}
use Rattle.formatting.proofs.sizes.page_address.Goals as goal

pub address-requires : goal.address-requires
address-requires c = record { fits = omega (arith, near_address c.args.b.bits c.args.p.0 c.args.b.known.1 c.requires.near) }

pub returns : goal.returns
returns c = (
  c.address.ensures,
  omega (
    arith,
    c.address.ensures,
    near_address c.args.b.bits c.args.p.0 c.args.b.known.1
        c.requires.near,
  ),
)
