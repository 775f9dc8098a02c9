-- The start of a replay, one turn of it, and its end. Assumes nothing.
use mathlib.Core.Path.{◌≡◌, refl, sym, ap, ◌∙◌}
use mathlib.Core.Bool.{true}
use mathlib.Core.List.{List, [], ◌∷◌}
use Prim.Native.Nat.{ℕ, ◌+◌, ◌-◌, ◌≤◌, ◌<◌}
use native.Mathlib.Omega.{arith}
use lib.ListN.{length}
use Rattle.memory.specs.Words.{overwrite}
use Rattle.memory.specs.Format.{format}
use Rattle.common.proofs.Overwrite.{length-overwrite}
use Rattle.rules.specs.Row.{Answer}
use Rattle.rules.specs.Bytes.{word_in}
use Rattle.rules.specs.Editions.{answer, after}
use Rattle.rules.specs.Replay.{line, script, replay}
use Rattle.script.specs.Walk.{is_script, next_record, call_at}
use Rattle.script.specs.Lines.{Put, first_line}
use Rattle.script.proofs.Lengths.{replay-most}
use Rattle.script.proofs.Puts.{put_same}
use Rattle.script.proofs.Replays.{Walking, begun, goes_on}

-- ---- bytes that are put over others

overwrite-over : (m xs ys : List ℕ) → length xs ≤ length ys → overwrite (overwrite m 0 xs) 0 ys ≡ overwrite m 0 ys
overwrite-over [] xs ys h = refl
overwrite-over (x ∷ m) [] ys h = refl
overwrite-over (x ∷ m) (w ∷ xs) [] h = absurd (omega arith)
overwrite-over (x ∷ m) (w ∷ xs) (y ∷ ys) h = ap (λ (l : List ℕ). y ∷ l) (overwrite-over m xs ys (omega arith))

pub put-over : {m n o : List ℕ} {i j : ℕ} {xs ys : List ℕ} → Put m n 0 i xs → Put n o 0 j ys → i ≤ j → Put m o 0 j ys
put-over {m} {n} {o} {i} {j} {xs} {ys} p q h =
    record {
      next = q.next;
      bytes = q.bytes ∙ ap (λ (l : List ℕ). overwrite l 0 ys) p.bytes ∙ overwrite-over m xs ys (omega (arith, p.next, q.next));
    }

-- what was put may be put again
put-again : {m n : List ℕ} {i : ℕ} {xs : List ℕ} → Put m n 0 i xs → Put n n 0 i xs
put-again {m} {n} {i} {xs} p =
    record {
      next = p.next;
      bytes = p.bytes ∙ sym (overwrite-over m xs xs (omega arith)) ∙ ap (λ (l : List ℕ). overwrite l 0 xs) (sym p.bytes);
    }

-- ---- turns

module _ (bs : List ℕ) where
  -- the first line is put, and no record is done
  pub start : {before m out : List ℕ} {b pages n i at : ℕ} → b ≡ 6 → is_script (script 6 bs) ≡ true → m ≡ format 6 (word_in bs 0) → pages ≡ word_in bs 0
      → Put before out 0 at (first_line b pages) → n ≡ word_in bs 4 → i ≡ word_in bs 8 → Walking 6 bs out n i 0 at m out
  start {before} {m} {out} {b} {pages} e s f w p n i =
      rw (n, i, f) (begun 6 bs out s (put-again (put_same (ap (λ (x : ℕ). first_line x pages) e ∙ ap (first_line 6) w) p)))

  -- the record at byte i is done, and its line put
  pub turn : {before m m' out wider : List ℕ} {n n' i i' k at next : ℕ} {a : Answer} → Walking 6 bs before n i k at m out → 0 < n
      → a ≡ answer m (call_at bs i) → m' ≡ after m (call_at bs i) → Put out wider at next (line (k + 1) a) → i' ≡ next_record bs i → n' ≡ n - 1
      → Walking 6 bs before n' i' (k + 1) next m' wider
  turn {before} {k = k} w h a s p e q = rw (s, e, q) (goes_on 6 bs before w h (put_same (ap (line (k + 1)) a) p))

  -- the transcript is within the buffer
  pub fits : {before out : List ℕ} {at : ℕ} → Put before out 0 at (replay 6 bs) → 32768 ≤ length before → at ≤ length out
  fits {before} p h = omega (arith, p.next, replay-most 6 bs, ap length p.bytes ∙ length-overwrite before 0 (replay 6 bs))
