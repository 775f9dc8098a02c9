-- A script is walked record by record. Assumes nothing.
use mathlib.Core.Path.{◌≡◌, refl, sym, ap, ◌∙◌, subst}
use mathlib.Core.Bool.{Bool, true, false, cond, ◌&&◌}
use mathlib.Core.List.{List, [], ◌∷◌}
use mathlib.Core.Option.{Option, none, some}
use Prim.Native.Nat.{ℕ, zero, suc, ◌+◌, ◌-◌, ◌*◌, ◌≤◌, ◌<◌}
use native.Mathlib.Decide.{dec_le}
use native.Mathlib.Omega.{arith}
use lib.Dec.{leb, eqb}
use lib.ListN.{length, get_or}
use borrow.Author.Tests.{le-leb, lt-leb, eqb-true}
use Rattle.walk.specs.Reflect.{Tells, both, le?}
use Rattle.rules.specs.Bytes.{word_in}
use Rattle.rules.specs.Call.{Call}
use Rattle.rules.specs.Replay.{argument_count, known_call, push, records}
use Rattle.script.specs.Walk.{is_script, whole_record, next_record, call_at}

-- ---- the table of argument counts

data Most (n : ℕ) : List ℕ → Type 0 where
  end : Most n []
  and : {x : ℕ} {xs : List ℕ} → x ≤ n → Most n xs → Most n (x ∷ xs)

most-at : {n : ℕ} {xs : List ℕ} → Most n xs → (k : ℕ) → get_or xs k 0 ≤ n
most-at end k = omega arith
most-at (and h m) zero = h
most-at (and h m) (suc k) = most-at m k

pub arguments-most : (n : ℕ) → argument_count n ≤ 5
arguments-most n = most-at (and (omega arith) (and (omega arith) (and (omega arith) (and (omega arith) (and (omega arith) (and (omega arith) (and (omega arith) (and (omega arith) (and (omega arith) (and (omega arith) (and (omega arith) (and (omega arith) end)))))))))))) (n - 1)

pub known? : (n : ℕ) → Tells (known_call n) ((1 ≤ n) × (n ≤ 12))
known? n = both le? le?

-- ---- one record

module _ (bs : List ℕ) (i : ℕ) where
  pub whole? : Tells (whole_record bs i) (((1 ≤ word_in bs i) × (word_in bs i ≤ 12)) × (next_record bs i ≤ length bs))
  unfolding whole_record
  whole? = both (known? (word_in bs i)) le?

  pub cut : length bs < i + 4 → whole_record bs i ≡ false
  unfolding whole_record
  cut h = last (known_call (word_in bs i)) (lt-leb (next_record bs i) (length bs) (omega arith))
    where
      last : (s : Bool) {t : Bool} → t ≡ false → (s && t) ≡ false
      last true e = e
      last false e = refl

  pub unknown : known_call (word_in bs i) ≡ false → whole_record bs i ≡ false
  unfolding whole_record
  unknown e = rw e refl

  -- the arguments are held against the bytes left
  pub by_bytes-left : i + 4 ≤ length bs → known_call (word_in bs i) ≡ true → leb (4 * argument_count (word_in bs i)) (length bs - i - 4) ≡ whole_record bs i
  unfolding whole_record
  by_bytes-left h e = rw e (pick (dec_le (next_record bs i) (length bs)))
    where
      n : ℕ
      n = 4 * argument_count (word_in bs i)

      pick : Dec (next_record bs i ≤ length bs) → leb (4 * argument_count (word_in bs i)) (length bs - i - 4) ≡ leb (next_record bs i) (length bs)
      pick (yes l) = le-leb n (length bs - i - 4) (omega arith) ∙ sym (le-leb (next_record bs i) (length bs) l)
      pick (no f) = lt-leb n (length bs - i - 4) (omega arith) ∙ sym (lt-leb (next_record bs i) (length bs) (omega arith))

-- ---- all records

is-push : (c : Call) (o : Option (List Call)) → is_script (push c o) ≡ is_script o
unfolding is_script push
is-push c none = refl
is-push c (some cs) = refl

module _ (bs : List ℕ) where
  records-suc : (n i : ℕ) → records (suc n) bs i ≡ cond (whole_record bs i) (push (call_at bs i) (records n bs (next_record bs i))) none
  unfolding records whole_record
  records-suc n i = refl

  pub no_more : (i : ℕ) → is_script (records 0 bs i) ≡ eqb i (length bs)
  unfolding records is_script
  no_more i = pick (eqb i (length bs))
    where
      pick : (t : Bool) → is_script (cond t (some []) none) ≡ t
      pick true = refl
      pick false = refl

  pub ends : (n i : ℕ) → 0 < n → whole_record bs i ≡ false → is_script (records n bs i) ≡ false
  unfolding is_script
  ends zero i h e = absurd (omega arith)
  ends (suc n) i h e = ap is_script (records-suc n i) ∙ rw e refl

  pub goes_on : (n i : ℕ) → 0 < n → whole_record bs i ≡ true → is_script (records n bs i) ≡ is_script (records (n - 1) bs (next_record bs i))
  goes_on zero i h e = absurd (omega arith)
  goes_on (suc n) i h e =
      let k : n ≡ suc n - 1 = omega arith in
      ap is_script (records-suc n i) ∙ rw e (is-push (call_at bs i) (records n bs (next_record bs i))) ∙ ap (λ (j : ℕ). is_script (records j bs (next_record bs i))) k

  -- what the first of n records is, where they are the calls cs
  pub record Step (n i : ℕ) (cs : List Call) : Type 0 where
    pub rest : List Call
    pub whole : whole_record bs i ≡ true
    pub first : cs ≡ call_at bs i ∷ rest
    pub others : records n bs (next_record bs i) ≡ some rest

  step-suc : (n i : ℕ) (cs : List Call) → records (suc n) bs i ≡ some cs → Step n i cs
  unfolding push
  step-suc n i cs e = pick (whole_record bs i) refl (records n bs (next_record bs i)) refl (sym (records-suc n i) ∙ e)
    where
      pick : (t : Bool) → whole_record bs i ≡ t → (o : Option (List Call)) → records n bs (next_record bs i) ≡ o → cond t (push (call_at bs i) o) none ≡ some cs → Step n i cs
      pick true p none q f = absurd (let z : ◌≡◌ {A = ℕ} 0 1 = cc in omega arith)
      pick true p (some rest) q f = record { rest = rest; whole = p; first = cc; others = q }
      pick false p o q f = absurd (let z : ◌≡◌ {A = ℕ} 0 1 = cc in omega arith)

  pub step : (n i : ℕ) (cs : List Call) → 0 < n → records n bs i ≡ some cs → Step (n - 1) i cs
  step zero i cs h e = absurd (omega arith)
  step (suc n) i cs h e =
      let k : n ≡ suc n - 1 = omega arith in
      subst (λ (j : ℕ). Step j i cs) k (step-suc n i cs e)

  pub done : (i : ℕ) (cs : List Call) → records 0 bs i ≡ some cs → (i ≡ length bs) × (cs ≡ [])
  unfolding records
  done i cs e = pick (eqb i (length bs)) refl e
    where
      pick : (t : Bool) → eqb i (length bs) ≡ t → cond t (some []) none ≡ some cs → (i ≡ length bs) × (cs ≡ [])
      pick true p f = (eqb-true i (length bs) p, cc)
      pick false p f = absurd (let z : ◌≡◌ {A = ℕ} 0 1 = cc in omega arith)

  -- a record has four bytes or more
  pub few : (n i : ℕ) (cs : List Call) → records n bs i ≡ some cs → (length cs ≡ n) × (i + 4 * length cs ≤ length bs)
  few zero i cs e = let (p, q) = done i cs e in (ap length q, omega (arith, p, ap length q))
  few (suc n) i cs e =
      let s = step-suc n i cs e in
      let (p, q) = few n (next_record bs i) s.rest s.others in
      let l : length cs ≡ suc (length s.rest) = ap length s.first in
      (omega (arith, p, l), omega (arith, p, q, l))
