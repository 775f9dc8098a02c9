-- `pages::addresses::frame` meets its contract. A page number that was cut out of a word has an address, and room for the flags. Assumes nothing.
use mathlib.Core.Path.{◌≡◌, ap, ◌∙◌}
use native.Mathlib.Omega.{arith}
use Rattle.memory.proofs.Widths.{frame-room}
use Rattle.memory.specs.Geometry.{address, page_of}
use Rattle.pages.proofs.addresses.frame.Goals as goal

pub address-requires : goal.address-requires
address-requires c =
    let e : address c.args.b.bits c.page_of.result.0 ≡ address c.args.b.bits (page_of c.args.b.bits c.args.w) = ap (address c.args.b.bits) c.page_of.ensures in
    record { fits = omega (arith, frame-room c.args.b.bits c.args.w c.args.b.known.0 c.args.b.known.1 (omega arith)) }

pub returns : goal.returns
returns c =
    let e : c.address.result ≡ address c.args.b.bits (page_of c.args.b.bits c.args.w) = c.address.ensures ∙ ap (address c.args.b.bits) c.page_of.ensures in
    (e, omega (arith, frame-room c.args.b.bits c.args.w c.args.b.known.0 c.args.b.known.1 (omega arith)))
