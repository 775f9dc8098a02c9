-- The lines in turn. Assumes nothing.
use mathlib.Core.Path.{◌≡◌, refl, sym, ap, ◌∙◌}
use mathlib.Core.List.{List, [], ◌∷◌, ◌++◌}
use Prim.Native.Nat.{ℕ, ◌+◌, ◌≤◌}
use native.Mathlib.Nat.{zero-add, suc-add}
use native.Mathlib.Numerals.{add-one}
use native.Mathlib.Omega.{arith}
use lib.ListN.{length, take, drop}
use borrow.Author.Tests.{eq-eqb, ne_eqb}
use Rattle.memory.specs.Words.{overwrite}
use Rattle.script.specs.Lines.{Put}
use Rattle.script.proofs.Puts.{put_then, take-over}
use Rattle.text.specs.Text.{lines, split, words}
use Rattle.text.specs.Lines.{pages_of, record_of, calls_in, reason}
use Rattle.assembly.specs.Assembled.{Result, written, unread, header, calls, begin}
use Rattle.text.specs.Steps.{part, LineAt, LineRead}
use Rattle.text.proofs.Cuts.{end-at}
use Rattle.assembly.proofs.Records.{overwrite_nil, put-none}

-- ---- a call's line

module _ (n k count : ℕ) (records l : List ℕ) (ls ws : List (List ℕ)) (why : ℕ) (e : words l ≡ ws) (q : why ≡ reason (12 + length records) ws) where
  stop : (why ≡ 0 → ⊥) → unread k why ≡ calls n k count records (l ∷ ls)
  unfolding calls
  stop z = rw (e, ← q, ne_eqb why 0 z) refl

  go : why ≡ 0 → calls n (k + 1) (count + calls_in ws) (records ++ record_of ws) ls ≡ calls n k count records (l ∷ ls)
  unfolding calls
  go z = rw (e, ← q, eq-eqb why 0 z, add-one k) refl

-- the records of the lines before byte i stand from byte 12 up to `at`
pub record Reading (text before out : List ℕ) (n : ℕ) (goal : Result) (i k count at : ℕ) : Type 0 where
  pub records : List ℕ
  pub put : Put before out 12 at records
  pub left : calls n k count records (lines (drop i text)) ≡ goal

module _ (text start : List ℕ) (n : ℕ) where
  pub reading : (i k : ℕ) → Reading text start start n (calls n k 0 [] (lines (drop i text))) i k 0 12
  reading i k = record { records = []; put = put-none start 12; left = refl }

  module _ {goal : Result} {out : List ℕ} {i k count at f e : ℕ} (r : Reading text start out n goal i k count at)
      (l : LineAt text i f e) where
    line-words : words (part text i e) ≡ split (part text i f)
    line-words = ap split l.read

    here : calls n k count r.records (part text i e ∷ lines (drop (e + 1) text)) ≡ goal
    here = ap (calls n k count r.records) (sym l.line) ∙ r.left

    why-here : {why : ℕ} → why ≡ reason at (split (part text i f)) → why ≡ reason (12 + length r.records) (split (part text i f))
    why-here q = q ∙ ap (λ (j : ℕ). reason j (split (part text i f))) r.put.next

    pub stops : {why : ℕ} → why ≡ reason at (split (part text i f)) → (why ≡ 0 → ⊥) → unread k why ≡ goal
    stops {why} q z = stop n k count r.records (part text i e) (lines (drop (e + 1) text)) (split (part text i f)) why line-words (why-here q) z ∙ here

    pub goes_on : {after : List ℕ} {more next : ℕ} → LineRead (split (part text i f)) out after at 0 more next
        → Reading text start after n goal (e + 1) (k + 1) (count + more) next
    goes_on d = record {
      records = r.records ++ record_of (split (part text i f));
      put = put_then r.put (d.put refl);
      left =
          ap (λ (m : ℕ). calls n (k + 1) (count + m) (r.records ++ record_of (split (part text i f))) (lines (drop (e + 1) text))) (d.calls_is refl)
          ∙ go n k count r.records (part text i e) (lines (drop (e + 1) text)) (split (part text i f)) 0 line-words (why-here d.why_is) refl
          ∙ here;
    }

-- ---- the end: the header is put before the records

both-taken : (m xs ys : List ℕ) → length xs + length ys ≤ length m → take (length xs + length ys) (overwrite (overwrite m (length xs) ys) 0 xs) ≡ xs ++ ys
both-taken m [] ys h =
    ap (λ (l : List ℕ). take (0 + length ys) l) (sym (overwrite_nil (overwrite m 0 ys) 0))
    ∙ ap (λ (k : ℕ). take k (overwrite m 0 ys)) (zero-add (length ys))
    ∙ take-over m ys (omega arith)
both-taken [] (x ∷ xs) ys h = absurd (omega arith)
both-taken (y ∷ m) (x ∷ xs) ys h = rw (suc-add (length xs) (length ys)) (ap (λ (l : List ℕ). x ∷ l) (both-taken m xs ys (omega arith)))

pub headed : (text start : List ℕ) (n : ℕ) {goal : Result} {out after : List ℕ} {i k count at end : ℕ}
    → Reading text start out n goal i k count at → length text ≤ i → at ≤ length start → Put out after 0 end (header n count) → written (take at after) ≡ goal
unfolding calls lines
headed text start n {goal} {out} {after} {i} {k} {count} {at} r h room p =
    let whole : take at after ≡ header n count ++ r.records =
    ap (λ (l : List ℕ). take at l) (p.bytes ∙ ap (λ (l : List ℕ). overwrite l 0 (header n count)) r.put.bytes)
    ∙ ap (λ (j : ℕ). take j (overwrite (overwrite start 12 r.records) 0 (header n count))) r.put.next
    ∙ both-taken start (header n count) r.records (omega (arith, r.put.next)) in
    ap written whole ∙ ap (λ (s : List ℕ). calls n k count r.records (lines s)) (sym (end-at text i h)) ∙ r.left

-- ---- the line that has N

module _ (k : ℕ) (l : List ℕ) (ls ws : List (List ℕ)) (e : words l ≡ ws) where
  skip : length ws ≡ 0 → begin (k + 1) ls ≡ begin k (l ∷ ls)
  unfolding begin
  skip z = rw (e, eq-eqb (length ws) 0 z, add-one k) refl

  refuse : (n : ℕ) → n ≡ pages_of ws → (length ws ≡ 0 → ⊥) → n ≡ 0 → unread k 1 ≡ begin k (l ∷ ls)
  unfolding begin
  refuse n q z y = rw (e, ne_eqb (length ws) 0 z, ← q, eq-eqb n 0 y) refl

  accept : (n : ℕ) → n ≡ pages_of ws → (length ws ≡ 0 → ⊥) → (n ≡ 0 → ⊥) → calls n (k + 1) 0 [] ls ≡ begin k (l ∷ ls)
  unfolding begin
  accept n q z y = rw (e, ne_eqb (length ws) 0 z, ← q, ne_eqb n 0 y, add-one k) refl

module _ (text : List ℕ) (k : ℕ) {i f e : ℕ} (l : LineAt text i f e) where
  this : begin k (part text i e ∷ lines (drop (e + 1) text)) ≡ begin k (lines (drop i text))
  this = ap (begin k) (sym l.line)

  pub blank-line : length (split (part text i f)) ≡ 0 → begin (k + 1) (lines (drop (e + 1) text)) ≡ begin k (lines (drop i text))
  blank-line z = skip k (part text i e) (lines (drop (e + 1) text)) (split (part text i f)) (ap split l.read) z ∙ this

  module _ (n : ℕ) (q : n ≡ pages_of (split (part text i f))) (z : length (split (part text i f)) ≡ 0 → ⊥) where
    pub no-pages : n ≡ 0 → unread k 1 ≡ begin k (lines (drop i text))
    no-pages y = refuse k (part text i e) (lines (drop (e + 1) text)) (split (part text i f)) (ap split l.read) n q z y ∙ this

    pub pages : (n ≡ 0 → ⊥) → calls n (k + 1) 0 [] (lines (drop (e + 1) text)) ≡ begin k (lines (drop i text))
    pages y = accept k (part text i e) (lines (drop (e + 1) text)) (split (part text i f)) (ap split l.read) n q z y ∙ this

pub no_lines : (text : List ℕ) (i k : ℕ) → length text ≤ i → unread k 7 ≡ begin k (lines (drop i text))
unfolding begin lines
no_lines text i k h = ap (λ (s : List ℕ). begin k (lines s)) (sym (end-at text i h))
