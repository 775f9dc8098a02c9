-- What is said of a refusal: it has a number other than 0, and at the exit of a `?` it is the one that the test gave. Assumes nothing.
use mathlib.Core.Path.{◌≡◌}
use mathlib.Core.Logic.{◌≢◌}
use mathlib.Core.List as Lists
use mathlib.Core.List.{◌++◌}
use Prim.Native.Nat.{ℕ}
use native.Mathlib.Omega.{arith}
use Rattle.std.specs.Prelude.{Result, ⊤, IsErrAnd}
use Rattle.std.proofs.lemmas.Result.{err_from_is_err_and}
use Rattle.rules.specs.Row.{Check, first}
use Rattle.rules.proofs.Rows.{stops}
use Rattle.answers.specs.declared.refusals.Refusal.{Refusal}
use Rattle.answers.specs.declared.refusals.Refusal.TheVariants.{Damaged, Size, Address, Twice, Child, Rights, Hand, Table, Taken, List, Chain}
use Rattle.answers.specs.declared.refusals.Refusal.TheVariants.{FullTable, Depth, Root, Unmapped, Kernel, Short, Magic, SlotPage, Slot, EmptySlot, Edition}
use Rattle.answers.specs.Said.{number_of, refusal_in}

pub number-some : (r : Refusal) → number_of r ≢ 0
number-some Damaged = omega arith
number-some Size = omega arith
number-some Address = omega arith
number-some Twice = omega arith
number-some Child = omega arith
number-some Rights = omega arith
number-some Hand = omega arith
number-some Table = omega arith
number-some Taken = omega arith
number-some List = omega arith
number-some Chain = omega arith
number-some FullTable = omega arith
number-some Depth = omega arith
number-some Root = omega arith
number-some Unmapped = omega arith
number-some Kernel = omega arith
number-some Short = omega arith
number-some Magic = omega arith
number-some SlotPage = omega arith
number-some Slot = omega arith
number-some EmptySlot = omega arith
number-some Edition = omega arith

-- a row that stops in its beginning xs, whose test gave e; r is what is returned
pub stopped : (xs ys : Lists.List Check) (r : Result ⊤ Refusal) (e : Refusal) → IsErrAnd r (λ y. y ≡ e) → number_of e ≡ first xs → refusal_in r ≡ first (xs ++ ys)
stopped xs ys r e given is = let p = err_from_is_err_and r given in rw (p.1, p.2) (stops xs ys _ is (number-some e))
