-- `header::formatted::Sizes::root_directory_word` meets its contract. Assumes nothing.
use mathlib.Core.Path.{ap}
use Prim.Native.Nat.{ℕ, ◌+◌, ◌*◌}
use native.Mathlib.Omega.{arith}
use borrow.Author.Tests.{lt-ltb, le-ltb}
use Rattle.memory.specs.Geometry.{threes_for}
use Rattle.pages.proofs.Fits.{address-small}
use Rattle.header.proofs.formatted.Sizes.root_directory_word.Goals as goal

pub address-requires : goal.address-requires
address-requires c = record { fits = omega (arith, address-small c.args.self.now.width.bits (6 + 3 * c.args.i + c.args.k) c.args.self.now.width.known.1 (omega arith)) }

pub overflow_add-result : goal.overflow_add-result
overflow_add-result c =
    let s = c.args in
    omega (arith, address-small s.self.now.width.bits (6 + 3 * s.i + s.k) c.args.self.now.width.known.1 (omega arith))

pub returns-then-i-self : goal.returns-then-i-self
returns-then-i-self c =
    let s = c.args in
    rw (lt-ltb s.i (threes_for s.self.now.width.bits s.self.now.pages) (omega arith)) (ap (λ (x : ℕ). x + 1) c.address.ensures)

pub returns : goal.returns
returns c = rw (le-ltb c.args.i (threes_for c.args.self.now.width.bits c.args.self.now.pages) (omega arith))
