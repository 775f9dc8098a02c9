-- The reader's refusals and answers, by what its tests say. Assumes nothing.
use mathlib.Core.Path.{◌≡◌, refl, ◌∙◌}
use mathlib.Core.Bool.{true, false, cond}
use mathlib.Core.List.{List}
use Prim.Native.Nat.{ℕ, ◌≤◌, ◌<◌}
use native.Mathlib.Decide.{dec_lt}
use native.Mathlib.Omega.{arith}
use lib.Dec.{eqb}
use lib.ListN.{length}
use borrow.Author.Tests.{lt-ltb, le-ltb, ne_eqb}
use Rattle.std.specs.Prelude.{Result, Ok, Err, ⊤}
use Rattle.std.specs.Result.{result_and}
use Rattle.common.proofs.Rows.{reply-no}
use Rattle.rules.specs.Row as Row
use Rattle.rules.specs.Bytes.{word_in}
use Rattle.rules.specs.Record.{has_magic, reader_refusals, reader_refusal}
use Rattle.rules.proofs.Rows.{at, on, none, first-is}
use Rattle.answers.specs.declared.refusals.Refusal.{Refusal}
use Rattle.answers.specs.Said.{number_of, said, refusal_in}
use Rattle.answers.proofs.Numbers.{number-some}

module _ (bs : List ℕ) where
  -- ---- the refusal

  pub short : length bs < 76 → reader_refusal bs ≡ 17
  unfolding reader_refusals
  short h = first-is (at (lt-ltb (length bs) 76 h))

  pub no-magic : 76 ≤ length bs → has_magic bs ≡ false → reader_refusal bs ≡ 18
  unfolding reader_refusals
  no-magic h e = first-is (on (le-ltb (length bs) 76 h) (at (rw e refl)))

  pub crossed : 76 ≤ length bs → has_magic bs ≡ true → word_in bs 8 < word_in bs 4 → reader_refusal bs ≡ 18
  unfolding reader_refusals
  crossed h e l = first-is (on (le-ltb (length bs) 76 h) (at (rw (e, lt-ltb (word_in bs 8) (word_in bs 4) l) refl)))

  pub passed : 76 ≤ length bs → has_magic bs ≡ true → word_in bs 4 ≤ word_in bs 8 → reader_refusal bs ≡ 0
  unfolding reader_refusals
  passed h e l = first-is (on (le-ltb (length bs) 76 h) (on (rw (e, le-ltb (word_in bs 8) (word_in bs 4) l) refl) none))

  -- what passes has a record's length
  pub passed-long : reader_refusal bs ≡ 0 → 76 ≤ length bs
  passed-long e = elim (dec_lt (length bs) 76) [
    | yes h ↦ absurd (omega (arith, e, short h))
    | no h ↦ omega arith
  ]

  -- ---- what is read

  module _ {A : Type 0} (x y : A) where
    pub read : 0 ≡ reader_refusal bs → x ≡ cond (eqb (reader_refusal bs) 0) x y
    read e = rw (← e) refl

    pub not_read : (r : Refusal) → number_of r ≡ reader_refusal bs → y ≡ cond (eqb (reader_refusal bs) 0) x y
    not_read r e = rw (ne_eqb (reader_refusal bs) 0 (λ f. number-some r (e ∙ f))) refl

-- the answer that has no word but 0
pub said_zero : (r : Result ⊤ Refusal) → said (result_and r (Ok 0)) ≡ Row.reply (refusal_in r) 0
unfolding Row.reply
said_zero (Ok x) = refl
said_zero (Err r) = reply-no (number_of r) (number_of r) 0 refl (number-some r)
