-- A list at a byte, and a text cut into its first line and the rest. Assumes nothing.
use mathlib.Core.Path.{◌≡◌, refl, sym, ap, ◌∙◌}
use mathlib.Core.Bool.{Bool, true, false, not, cond}
use mathlib.Core.List.{List, [], ◌∷◌}
use Prim.Native.Nat.{ℕ, suc, ◌+◌, ◌-◌, ◌≤◌, ◌<◌}
use native.Mathlib.Omega.{arith}
use native.Mathlib.Numerals.{add-one}
use native.Mathlib.Decide.{dec_lt}
use lib.Dec.{eqb, ltb}
use lib.ListN.{length, get_or, take, drop, length-take, length-drop, drop_of_length-le}
use lib.Seq.{drop-cons, drop-drop, take-take, take_all}
use borrow.Author.Tests.{lt-ltb, le-ltb}
use Rattle.std.specs.Prelude.{Some, None}
use Rattle.std.specs.Option.{unwrap_or}
use Rattle.std.specs.List.{prefix_len, position}
use Rattle.text.specs.Text.{newline, hash, before, onto, lines}
use Rattle.text.specs.Steps.{part, LineAt}

-- what stands from byte i on
pub cons_at : (s : List ℕ) (i : ℕ) → i < length s → drop i s ≡ get_or s i 0 ∷ drop (i + 1) s
cons_at s i h = rw (add-one i) (drop-cons s i 0 h)

pub end-at : (s : List ℕ) (i : ℕ) → length s ≤ i → drop i s ≡ []
end-at s i h = drop_of_length-le s h

-- the part up to the end
pub to_end : (s : List ℕ) (i : ℕ) → part s i (length s) ≡ drop i s
to_end s i = take_all (length s - i) (drop i s) (omega (arith, length-drop i s))

-- ---- the bytes before the first b

stop : (b x : ℕ) (xs : List ℕ) → eqb x b ≡ true → before b (x ∷ xs) ≡ []
unfolding before
stop b x xs e = ap (λ (t : Bool). cond t [] (x ∷ before b xs)) e

go : (b x : ℕ) (xs : List ℕ) → eqb x b ≡ false → before b (x ∷ xs) ≡ x ∷ before b xs
unfolding before
go b x xs e = ap (λ (t : Bool). cond t [] (x ∷ before b xs)) e

-- the place of the first that is found, or the length where there is none
pub place-or : (n k : ℕ) → n ≤ k → unwrap_or (cond (ltb n k) (Some n) None) k ≡ n
place-or n k h = elim (dec_lt n k) [
  | yes l ↦ rw (lt-ltb n k l) refl
  | no l ↦ rw (le-ltb n k (omega arith)) (omega arith)
]

passed : (b : ℕ) (s : List ℕ) → prefix_len (λ (x : ℕ). not (eqb x b)) s ≡ length (before b s)
unfolding before
passed b [] = refl
passed b (x ∷ xs) = pick (eqb x b) (passed b xs)
  where
    pick : (t : Bool) → prefix_len (λ (y : ℕ). not (eqb y b)) xs ≡ length (before b xs)
        → cond (not t) (1 + prefix_len (λ (y : ℕ). not (eqb y b)) xs) 0 ≡ length (cond t [] (x ∷ before b xs))
    pick true e = refl
    pick false e = omega arith

pub before-most : (b : ℕ) (s : List ℕ) → length (before b s) ≤ length s
unfolding before
before-most b [] = omega arith
before-most b (x ∷ xs) = pick (eqb x b) (before-most b xs)
  where
    pick : (t : Bool) → length (before b xs) ≤ length xs → length (cond t [] (x ∷ before b xs)) ≤ suc (length xs)
    pick true h = omega arith
    pick false h = omega arith

pub before-place : (b : ℕ) (s : List ℕ) → unwrap_or (position (λ (x : ℕ). eqb x b) s) (length s) ≡ length (before b s)
before-place b s =
    let e = passed b s in
    place-or (prefix_len (λ (x : ℕ). not (eqb x b)) s) (length s) (omega (arith, e, before-most b s)) ∙ e

front : (b x : ℕ) (xs : List ℕ) (t : Bool) → eqb x b ≡ t → take (length (before b xs)) xs ≡ before b xs
    → take (length (before b (x ∷ xs))) (x ∷ xs) ≡ before b (x ∷ xs)
front b x xs true e h = rw (stop b x xs e) refl
front b x xs false e h = rw (go b x xs e) (ap (λ (l : List ℕ). x ∷ l) h)

take-before : (b : ℕ) (l : List ℕ) → take (length (before b l)) l ≡ before b l
unfolding before
take-before b [] = refl
take-before b (x ∷ xs) = front b x xs (eqb x b) refl (take-before b xs)

-- ---- the first line

line-stop : (x : ℕ) (xs : List ℕ) → eqb x newline ≡ true → lines (x ∷ xs) ≡ [] ∷ lines xs
unfolding lines
line-stop x xs e = ap (λ (t : Bool). cond t ([] ∷ lines xs) (onto x (lines xs))) e

line-go : (x : ℕ) (xs : List ℕ) → eqb x newline ≡ false → lines (x ∷ xs) ≡ onto x (lines xs)
unfolding lines
line-go x xs e = ap (λ (t : Bool). cond t ([] ∷ lines xs) (onto x (lines xs))) e

-- a text is its first line and what stands behind it
Cut : List ℕ → Type 0
Cut s = lines s ≡ before newline s ∷ lines (drop (suc (length (before newline s))) s)

longer : (x : ℕ) (xs : List ℕ) (t : Bool) → eqb x newline ≡ t → (0 < length xs → Cut xs) → Cut (x ∷ xs)
unfolding Cut onto lines before
longer x xs true e h = rw (stop newline x xs e) (line-stop x xs e)
longer x [] false e h = rw (go newline x [] e) (line-go x [] e)
longer x (y ∷ ys) false e h = rw (go newline x (y ∷ ys) e) (line-go x (y ∷ ys) e ∙ ap (onto x) (h (omega arith)))

first-line : (s : List ℕ) → 0 < length s → Cut s
first-line [] h = absurd (omega arith)
first-line (x ∷ xs) h = longer x xs (eqb x newline) refl (first-line xs)

-- the line that starts at byte i, where n bytes stand before its end and m of them before a `#`
pub line-is : (text : List ℕ) (i n m : ℕ) → i < length text → n ≡ length (before newline (part text i (length text))) → n ≤ length (part text i (length text))
    → m ≡ length (before hash (part text i (i + n))) → m ≤ length (part text i (i + n)) → LineAt text i (i + m) (i + n)
unfolding Cut
line-is text i n m h p q r t =
    let rest = drop i text in
    let e : i + n - i ≡ n = omega arith in
    let f : i + m - i ≡ m = omega arith in
    let g : n ≡ length (before newline rest) = p ∙ ap (λ (s : List ℕ). length (before newline s)) (to_end text i) in
    let l : part text i (i + n) ≡ before newline rest = ap (λ (k : ℕ). take k rest) (e ∙ g) ∙ take-before newline rest in
    let next : i + suc (length (before newline rest)) ≡ i + n + 1 = omega arith in
    let later : drop (suc (length (before newline rest))) rest ≡ drop (i + n + 1) text =
    drop-drop (suc (length (before newline rest))) i text ∙ ap (λ (k : ℕ). drop k text) next in
    let short : m ≤ i + n - i = omega (arith, length-take (i + n - i) rest) in
    record {
      after = omega arith;
      order = omega arith;
      within = omega (arith, length-drop i text, ap length (to_end text i));
      line = first-line rest (omega (arith, length-drop i text)) ∙ cc (l, later);
      read =
          sym (take-before hash (part text i (i + n)))
          ∙ ap (λ (k : ℕ). take k (part text i (i + n))) (sym r)
          ∙ take-take m (i + n - i) rest short
          ∙ ap (λ (k : ℕ). take k rest) (sym f);
    }
