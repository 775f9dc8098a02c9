-- A record's number and its five words are its call. Assumes nothing.
use mathlib.Core.Path.{◌≡◌, refl, ap, ◌∙◌}
use mathlib.Core.Bool.{true, cond}
use mathlib.Core.List.{List}
use mathlib.Core.Option.{Option, none, some}
use Prim.Native.Nat.{ℕ, zero, suc, ◌≤◌, ◌<◌}
use native.Mathlib.Omega.{arith}
use lib.Dec.{leb}
use lib.ListN.{get_or}
use borrow.Author.Tests.{lt-ltb, le-ltb, le-leb}
use Rattle.rules.specs.Bytes.{word_in}
use Rattle.rules.specs.Row.{Answer}
use Rattle.rules.specs.Editions.{answer, after}
use Rattle.rules.specs.Replay.{argument_count, call_of}
use Rattle.script.specs.Walk.{whole_record, argument_at, call_at}
use Rattle.script.proofs.Walks.{whole?}
use Rattle.kernel.specs.Sequence.{numbered}
use Rattle.kernel.specs.Called.{called_by, called_answer, called_after}
use Rattle.transcripts.specs.Held.{held_at, held, five_at}

pub is_argument : (n : ℕ) (a : ℕ → ℕ) (j : ℕ) → j < argument_count n → a j ≡ held_at n a j
is_argument n a j h = rw (lt-ltb j (argument_count n) h) refl

pub no_argument : (n : ℕ) (a : ℕ → ℕ) (j : ℕ) → argument_count n ≤ j → 0 ≡ held_at n a j
no_argument n a j h = rw (le-ltb j (argument_count n) h) refl

by_five : (n : ℕ) (a : ℕ → ℕ) → 1 ≤ n → n ≤ 12 → numbered n (λ j. get_or (held n a) j 0) ≡ call_of n a
unfolding numbered call_of held
by_five zero a h k = absurd (omega arith)
by_five (suc zero) a h k = refl
by_five (suc (suc zero)) a h k = refl
by_five (suc (suc (suc zero))) a h k = refl
by_five (suc (suc (suc (suc zero)))) a h k = refl
by_five (suc (suc (suc (suc (suc zero))))) a h k = refl
by_five (suc (suc (suc (suc (suc (suc zero)))))) a h k = refl
by_five (suc (suc (suc (suc (suc (suc (suc zero))))))) a h k = refl
by_five (suc (suc (suc (suc (suc (suc (suc (suc zero)))))))) a h k = refl
by_five (suc (suc (suc (suc (suc (suc (suc (suc (suc zero))))))))) a h k = refl
by_five (suc (suc (suc (suc (suc (suc (suc (suc (suc (suc zero)))))))))) a h k = refl
by_five (suc (suc (suc (suc (suc (suc (suc (suc (suc (suc (suc zero))))))))))) a h k = refl
by_five (suc (suc (suc (suc (suc (suc (suc (suc (suc (suc (suc (suc zero)))))))))))) a h k = refl
by_five (suc (suc (suc (suc (suc (suc (suc (suc (suc (suc (suc (suc (suc n))))))))))))) a h k = absurd (omega arith)

-- ---- the call by the number of the record that starts at byte i

module _ (m bs : List ℕ) (i : ℕ) {n : ℕ} {a : List ℕ} (w : whole_record bs i ≡ true) (e : n ≡ word_in bs i) (f : a ≡ five_at bs i) where
  is_record : called_by m n a ≡ call_at bs i
  is_record = let h = ((whole? bs i).0 w).0 in rw (e, f) (by_five (word_in bs i) (argument_at bs i) h.0 h.1)

  known : leb n 12 ≡ true
  known = le-leb n 12 (omega (arith, e, ((whole? bs i).0 w).0.1))

  recorded : called_answer m n a ≡ some (answer m (call_at bs i))
  recorded = ap (λ t. cond t (some (answer m (called_by m n a))) none) known ∙ ap (λ c. some (answer m c)) is_record

  pub record_answer : {o : Option Answer} {x : Answer} → o ≡ some x → o ≡ called_answer m n a → x ≡ answer m (call_at bs i)
  record_answer p q = let r = q ∙ recorded in cc

  -- a record's number is known
  pub record_known : {o : Option Answer} → o ≡ none → o ≡ called_answer m n a → ⊥
  record_known p q =
      let r = q ∙ recorded in
      let z : ◌≡◌ {A = ℕ} 0 1 = cc in omega arith

  pub record_after : {m' : List ℕ} → m' ≡ called_after m n a → m' ≡ after m (call_at bs i)
  record_after p = p ∙ ap (λ t. cond t (after m (called_by m n a)) m) known ∙ ap (λ c. after m c) is_record
