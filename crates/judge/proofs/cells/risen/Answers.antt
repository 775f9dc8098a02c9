-- `judge::cells::risen` meets its contract. Assumes nothing.
use mathlib.Core.Path.{◌≡◌, refl}
use Prim.Native.Nat.{ℕ, ◌<◌}
use native.Mathlib.Omega.{arith}
use native.Mathlib.Decide.{dec_lt}
use borrow.Author.Tests.{lt-ltb, le-ltb}
use Rattle.judging.specs.Quick.{largest, rise}
use Rattle.judge.proofs.cells.risen.Goals as goal

-- a word above the one before is below the largest or is the largest
risen-is : (t y : ℕ) → t < y → y < 4294967296 → y ≡ rise t y
risen-is t y h l = elim (dec_lt y largest) [
  | yes g ↦ rw (lt-ltb t y h, lt-ltb y largest g) refl
  | no g ↦ rw (lt-ltb t y h, le-ltb y largest (omega arith)) (omega arith)
]

pub returns-then-top-y : goal.returns-then-top-y
returns-then-top-y c = risen-is c.args.top c.args.y (omega arith) (omega arith)

pub returns-else-top-y : goal.returns-else-top-y
returns-else-top-y c = rw (le-ltb c.args.top c.args.y (omega arith)) refl
