-- The rows of the calls' refusals: the laws of any row, of this kernel's numbers; and a call by what its row comes to. Assumes nothing.
use mathlib.Core.Path.{◌≡◌, ap}
use mathlib.Core.Logic.{◌≢◌}
use mathlib.Core.List.{List, ◌∷◌, ◌++◌}
use mathlib.Core.Bool.{Bool, false}
use Prim.Native.Nat.{ℕ, suc}
use native.Mathlib.Omega.{arith}
use Rattle.common.proofs.Rows
pub use Rattle.common.proofs.Rows.{none, on, at, first-is, Passed, split, reply-ok, reply-no}
use Rattle.rules.specs.Refusal.{Refusal, number, DAMAGED, SIZE, ADDRESS, TWICE, CHILD, RIGHTS, HAND, TABLE, TAKEN, LIST, CHAIN, FULL-TABLE}
use Rattle.rules.specs.Refusal.{DEPTH, ROOT, UNMAPPED, KERNEL, SHORT, MAGIC, SLOT-PAGE, SLOT, EMPTY-SLOT, EDITION}
use Rattle.rules.specs.Row.{Check, ◌when◌, first, reply, pass, ok, no}
use Rattle.rules.specs.Call.{Call, resumption}
use Rattle.rules.specs.Refusals.{refusals}
use Rattle.rules.specs.Effects.{effect}
use Rattle.rules.specs.Calls.{result, answer, resumed, context, after}

number-some : (r : Refusal) → number r ≢ 0
number-some DAMAGED = omega arith
number-some SIZE = omega arith
number-some ADDRESS = omega arith
number-some TWICE = omega arith
number-some CHILD = omega arith
number-some RIGHTS = omega arith
number-some HAND = omega arith
number-some TABLE = omega arith
number-some TAKEN = omega arith
number-some LIST = omega arith
number-some CHAIN = omega arith
number-some FULL-TABLE = omega arith
number-some DEPTH = omega arith
number-some ROOT = omega arith
number-some UNMAPPED = omega arith
number-some KERNEL = omega arith
number-some SHORT = omega arith
number-some MAGIC = omega arith
number-some SLOT-PAGE = omega arith
number-some SLOT = omega arith
number-some EMPTY-SLOT = omega arith
number-some EDITION = omega arith

abbrev pub First : List Check → ℕ → Type 0
First cs r = Rows.First number cs r

pub first-self : (cs : List Check) → First cs (first cs)
first-self = Rows.first-self number

pub first-passed : (cs : List Check) → Passed cs → first cs ≡ 0
first-passed = Rows.first-passed number

pub clear : (r : Refusal) (t : Bool) (cs : List Check) → first (r when t ∷ cs) ≡ 0 → (t ≡ false) × (first cs ≡ 0)
clear = Rows.clear number number-some

pub passed : (cs : List Check) → first cs ≡ 0 → Passed cs
passed = Rows.passed number number-some

pub stops : (xs ys : List Check) (n : ℕ) → n ≡ first xs → n ≢ 0 → n ≡ first (xs ++ ys)
stops = Rows.stops number number-some

pub goes_on : (xs ys : List Check) (n : ℕ) → n ≡ first xs → n ≡ 0 → first ys ≡ first (xs ++ ys)
goes_on = Rows.goes_on number number-some

-- ---- a call by what its row comes to

module _ (b : ℕ) (m : List ℕ) (c : Call) where
  pub answer-no : (n : ℕ) → First (refusals b m c) (suc n) → answer b m c ≡ no (suc n)
  unfolding answer reply
  answer-no n e = ap (λ (k : ℕ). reply k (result b m c)) (first-is e)

  pub after-no : (n : ℕ) → First (refusals b m c) (suc n) → after b m c ≡ m
  unfolding after pass
  after-no n e = ap (λ (k : ℕ). pass k (effect b m c) m) (first-is e)

  pub context-no : (n : ℕ) → First (refusals b m c) (suc n) → context b m c ≡ resumed b m (suc n) (resumption c)
  unfolding context
  context-no n e = ap (λ (k : ℕ). resumed b m k (resumption c)) (first-is e)

  pub answer_ok : First (refusals b m c) 0 → answer b m c ≡ ok (result b m c)
  unfolding answer reply
  answer_ok e = ap (λ (k : ℕ). reply k (result b m c)) (first-is e)

  pub after-ok : First (refusals b m c) 0 → after b m c ≡ effect b m c
  unfolding after pass
  after-ok e = ap (λ (k : ℕ). pass k (effect b m c) m) (first-is e)
