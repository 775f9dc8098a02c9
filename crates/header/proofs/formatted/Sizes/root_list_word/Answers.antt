-- `header::formatted::Sizes::root_list_word` meets its contract. Assumes nothing.
use Prim.Native.Nat.{◌+◌, ◌*◌, ◌/◌, ◌%◌}
use native.Mathlib.Omega.{arith}
use borrow.Author.Tests.{eq-eqb, ne_eqb, le-leb, lt-leb}
use Rattle.memory.specs.Geometry.{threes_for}
use Rattle.pages.proofs.Fits.{address-small}
use Rattle.header.proofs.formatted.Sizes.root_list_word.Goals as goal

pub returns-then-i-eq0 : goal.returns-then-i-eq0
returns-then-i-eq0 c = rw (eq-eqb c.args.i 0 c.if-i-eq0.true) (omega arith)

pub returns-then-i-ne0 : goal.returns-then-i-ne0
returns-then-i-ne0 c =
    let s = c.args in
    rw (ne_eqb s.i 0 c.if-i-eq0.false, ne_eqb (s.i % 2) 0 c.if-i-ne0.true)

pub returns-then-self-i : goal.returns-then-self-i
returns-then-self-i c =
    let s = c.args in
    rw (ne_eqb s.i 0 c.if-i-eq0.false, eq-eqb (s.i % 2) 0 c.if-i-ne0.false, lt-leb s.i (6 * threes_for s.self.now.width.bits s.self.now.pages) (omega arith))

pub address-requires : goal.address-requires
address-requires c =
    let h = c.requires in
    let s = c.args in
    record { fits = omega (arith, address-small s.self.now.width.bits (5 + s.i / 2) s.self.now.width.known.1 (omega arith)) }

pub returns : goal.returns
returns c =
    let s = c.args in
    rw (ne_eqb s.i 0 c.if-i-eq0.false, eq-eqb (s.i % 2) 0 c.if-i-ne0.false, le-leb s.i (6 * threes_for s.self.now.width.bits s.self.now.pages) (omega arith))
    c.address.ensures
