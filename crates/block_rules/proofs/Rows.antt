-- A row of refusals that comes to 0: every test is false. Assumes nothing.
use mathlib.Core.Path.{◌≡◌, refl}
use mathlib.Core.Logic.{◌≢◌}
use mathlib.Core.List.{List}
use mathlib.Core.Bool.{Bool, true, false, true≢false, not, ◌||◌}
use Prim.Native.Nat.{ℕ}
use native.Mathlib.Omega.{arith}
use lib.Dec.{eqb}
use borrow.Author.Tests.{eqb-true, not-false}
use Rattle.common.proofs.Rows
use Rattle.common.proofs.Rows.{Passed}
use Rattle.block_rules.specs.Refusal.{Refusal, number, DAMAGED, CHILD, BLOCK, RIGHTS, PIECE, APART, UNMERGED, SLOT, STRUCTURE, ENABLED, EMPTY}
use Rattle.block_rules.specs.Refusal.{ROOT, LENGTH}
use Rattle.block_rules.specs.Row.{Check, first}

pub number-some : (r : Refusal) → number r ≢ 0
number-some DAMAGED = omega arith
number-some CHILD = omega arith
number-some BLOCK = omega arith
number-some RIGHTS = omega arith
number-some PIECE = omega arith
number-some APART = omega arith
number-some UNMERGED = omega arith
number-some SLOT = omega arith
number-some STRUCTURE = omega arith
number-some ENABLED = omega arith
number-some EMPTY = omega arith
number-some ROOT = omega arith
number-some LENGTH = omega arith

pub passed : (cs : List Check) → first cs ≡ 0 → Passed cs
passed = Rows.passed number number-some

-- a test `not (x is y)` that is false, and two tests of which neither holds
pub is : (x y : ℕ) → not (eqb x y) ≡ false → x ≡ y
is x y e = eqb-true x y (not-false (eqb x y) e)

pub neither : (s t : Bool) → (s || t) ≡ false → (s ≡ false) × (t ≡ false)
neither true t e = absurd (true≢false e)
neither false t e = (refl, e)
