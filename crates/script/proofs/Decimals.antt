-- A number's decimal digits. Assumes nothing.
use mathlib.Core.Path.{◌≡◌, refl, sym}
use mathlib.Core.Bool.{Bool, true, false, cond}
use mathlib.Core.List.{[], ◌∷◌, ◌++◌}
use Prim.Native.Nat.{ℕ, zero, suc, ◌+◌, ◌/◌, ◌%◌, ◌≤◌, ◌<◌}
use native.Mathlib.Omega.{arith}
use lib.Dec.{ltb}
use lib.ListN.{length, length-append}
use borrow.Author.Tests.{lt-ltb, le-ltb}
use borrow.Author.Rules.{rules}
use Rattle.std.specs.Fmt as Fmt
use Rattle.std.proofs.lemmas.Fmt.{AppendsLastDigit, decimal_from_appends, length-decimal-le}
use Rattle.rules.specs.Replay.{digits, decimal}

-- the library's digits of a 32-bit word are those of the definition
pub as_printed : (x : ℕ) → x < 4294967296 → Fmt.decimal x ≡ decimal x
unfolding digits
as_printed x h =
    let own : AppendsLastDigit digits = record { one = λ k n l. rw (lt-ltb n 10 l) refl; more = λ k n l. rw (le-ltb n 10 l) refl } in
    sym (decimal_from_appends digits own 10 x (omega arith) (search (rules, length-decimal-le 10)))

pub digits-most : (m x : ℕ) → length (digits m x) ≤ m
unfolding digits
digits-most zero x = omega arith
digits-most (suc m) x = pick (ltb x 10) (digits-most m (x / 10))
  where
    pick : (t : Bool) → length (digits m (x / 10)) ≤ m → length (cond t ((48 + x) ∷ []) (digits m (x / 10) ++ ((48 + x % 10) ∷ []))) ≤ suc m
    pick true h = omega arith
    pick false h = omega (arith, length-append (digits m (x / 10)) ((48 + x % 10) ∷ []))

pub decimal-most : (x : ℕ) → length (decimal x) ≤ 10
decimal-most x = digits-most 10 x
