-- `header::formatted::Sizes::root_descriptor_word` meets its contract. Assumes nothing.
use Prim.Native.Nat.{◌+◌, ◌/◌, ◌%◌}
use native.Mathlib.Omega.{arith}
use borrow.Author.Tests.{eq-eqb, ne_eqb, le-leb, lt-leb}
use Rattle.pages.proofs.Fits.{address-small}
use Rattle.header.proofs.Laws.Formatted.{descriptor-words}
use Rattle.header.proofs.formatted.Sizes.root_descriptor_word.Goals as goal

pub returns-then-i-ge10 : goal.returns-then-i-ge10
returns-then-i-ge10 c = rw (descriptor-words c.args.self.now.width.bits c.args.i, le-leb 10 c.args.i c.if-i-ge10.true)

pub returns-then-i-eq0 : goal.returns-then-i-eq0
returns-then-i-eq0 c =
    let s = c.args in
    rw (descriptor-words s.self.now.width.bits s.i, lt-leb 10 s.i c.if-i-ge10.false, eq-eqb (s.i % 2) 0 c.if-i-eq0.true)

pub address-requires : goal.address-requires
address-requires c =
    let h = c.args.self.now.width.known in
    let s = c.args in
    record { fits = omega (arith, address-small s.self.now.width.bits (s.i / 2 + 1) h.1 (omega arith)) }

pub returns : goal.returns
returns c =
    let s = c.args in
    rw (descriptor-words s.self.now.width.bits s.i, lt-leb 10 s.i c.if-i-ge10.false, ne_eqb (s.i % 2) 0 c.if-i-eq0.false) c.address.ensures
