-- A line's record, written number by number. Assumes nothing.
use mathlib.Core.Path.{◌≡◌, refl, sym, ap, ◌∙◌}
use mathlib.Core.Bool.{true}
use mathlib.Core.List.{List, [], ◌∷◌, ◌++◌, append_assoc, append-nil}
use Prim.Native.Nat.{ℕ, zero, suc, ◌+◌, ◌*◌, ◌≤◌, ◌<◌}
use native.Mathlib.Omega.{arith}
use lib.ListN.{length, drop, length-append}
use Rattle.memory.specs.Words.{overwrite}
use Rattle.common.proofs.Overwrite.{length-overwrite}
use Rattle.rules.specs.Bytes.{little_endian}
use Rattle.script.specs.Lines.{Put}
use Rattle.script.proofs.Puts.{put_then, put_same}
use Rattle.text.specs.Text.{split}
use Rattle.text.specs.Numbers.{number, is_number, all_numbers}
use Rattle.text.specs.Names.{call_number}
use Rattle.text.specs.Lines.{arguments, record_of, calls_in, reason}
use Rattle.text.specs.Steps.{part, NextWord, LineRead}
use Rattle.text.proofs.Cuts.{to_end}
use Rattle.text.proofs.Values.{number-here}

pub overwrite_nil : (m : List ℕ) (i : ℕ) → m ≡ overwrite m i []
overwrite_nil [] i = refl
overwrite_nil (x ∷ xs) zero = refl
overwrite_nil (x ∷ xs) (suc i) = ap (λ (l : List ℕ). x ∷ l) (overwrite_nil xs i)

-- no byte is put
pub put-none : (m : List ℕ) (i : ℕ) → Put m m i i []
put-none m i = record { next = omega arith; bytes = overwrite_nil m i }

pub put-length : {m n : List ℕ} {i j : ℕ} {xs : List ℕ} → Put m n i j xs → length n ≡ length m
put-length {m} {n} {i} {j} {xs} p = ap length p.bytes ∙ length-overwrite m i xs

pub arguments-length : (ws : List (List ℕ)) → length (arguments ws) ≡ 4 * length ws
unfolding arguments
arguments-length [] = refl
arguments-length (w ∷ ws) = omega (arith, length-append (little_endian (number w)) (arguments ws), arguments-length ws)

-- the numbers of s, of which those from byte i on are left
pub record Putting (s before out : List ℕ) (at to i : ℕ) : Type 0 where
  pub done : List ℕ
  pub put : Put before out at to done
  pub whole : done ++ arguments (split (drop i s)) ≡ arguments (split s)
  pub numbers : all_numbers (split (drop i s)) ≡ true
  pub room : to + 4 * length (split (drop i s)) ≤ length out

module _ (s before : List ℕ) (at : ℕ) where
  pub begun : all_numbers (split s) ≡ true → at + 4 * length (split s) ≤ length before → Putting s before before at at 0
  begun e h = record { done = []; put = put-none before at; whole = refl; numbers = e; room = h }

  pub over : {out : List ℕ} {to i : ℕ} → Putting s before out at to i → split (drop i s) ≡ [] → Put before out at to (arguments (split s))
  unfolding arguments
  over p q = put_same (sym (append-nil p.done) ∙ ap (λ (ws : List (List ℕ)). p.done ++ arguments ws) (sym q) ∙ p.whole) p.put

  module _ {out : List ℕ} {to i a e : ℕ} (p : Putting s before out at to i) (n : NextWord s i a e) where
    pub is-number : a < e → is_number (part s a e) ≡ true
    is-number l = (number-here s n l p.numbers).0

    pub room-here : a < e → to + 4 ≤ length out
    room-here l = omega (arith, p.room, ap length (n.word l))

    pub goes_on : {wider : List ℕ} {next : ℕ} → a < e → Put out wider to next (little_endian (number (part s a e))) → Putting s before wider at next e
    unfolding arguments
    goes_on l q =
        let x = little_endian (number (part s a e)) in
        record {
          done = p.done ++ x;
          put = put_then p.put q;
          whole =
              append_assoc p.done x (arguments (split (drop e s)))
              ∙ ap (λ (ws : List (List ℕ)). p.done ++ arguments ws) (sym (n.word l))
              ∙ p.whole;
          numbers = (number-here s n l p.numbers).1;
          room = omega (arith, p.room, ap length (n.word l), q.next, put-length q);
        }

-- ---- a line

pub skipped : (s out : List ℕ) (at : ℕ) → at ≤ 4096 → split s ≡ [] → LineRead (split s) out out at 0 0 at
unfolding reason calls_in record_of
skipped s out at room q = rw q (record { why_is = refl; calls_is = λ z. refl; put = λ z. put-none out at; few = omega arith; room = room })

module _ (s out : List ℕ) (at a e : ℕ) (n : NextWord s 0 a e) (l : a < e) where
  -- the words are those that the code reads
  words : split s ≡ part s a e ∷ split (part s e (length s))
  words = n.word l ∙ ap (λ (r : List ℕ). part s a e ∷ split r) (sym (to_end s e))

  pub refused : (why : ℕ) → why ≡ reason at (part s a e ∷ split (part s e (length s))) → why ≡ reason at (split s)
  refused why q = q ∙ ap (reason at) (sym words)

  pub taken : {after : List ℕ} {next call : ℕ} → call ≡ call_number (part s a e) → reason at (part s a e ∷ split (part s e (length s))) ≡ 0
      → Put out after at next (little_endian call ++ arguments (split (part s e (length s)))) → next ≤ 4096 → LineRead (split s) out after at 0 1 next
  unfolding calls_in record_of
  taken c q p m =
      let put = put_same (ap (λ (k : ℕ). little_endian k ++ arguments (split (part s e (length s)))) c) p in
      rw words (record { why_is = sym q; calls_is = λ y. refl; put = λ y. put; few = omega arith; room = m })
