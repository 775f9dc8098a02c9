-- A line cut into its first word and the rest. Assumes nothing.
use mathlib.Core.Path.{◌≡◌, refl, sym, ap, ◌∙◌}
use mathlib.Core.Bool.{Bool, true, false, not, cond}
use mathlib.Core.List.{List, [], ◌∷◌}
use Prim.Native.Nat.{ℕ, suc, ◌+◌, ◌-◌, ◌≤◌, ◌<◌}
use native.Mathlib.Omega.{arith}
use lib.ListN.{length, take, drop, length-drop}
use lib.Seq.{drop-drop}
use Rattle.std.specs.Option.{unwrap_or}
use Rattle.std.specs.List.{prefix_len, position}
use Rattle.text.specs.Text.{blank, onto, ends, split}
use Rattle.text.specs.Steps.{part, is_kind, leading, NextWord}
use Rattle.text.proofs.Cuts.{to_end, place-or}

kind : (t : Bool) (x : ℕ) (xs : List ℕ) → is_kind t x ≡ true → leading t (x ∷ xs) ≡ suc (leading t xs)
unfolding leading
kind t x xs e = ap (λ (u : Bool). cond u (suc (leading t xs)) 0) e

other : (t : Bool) (x : ℕ) (xs : List ℕ) → is_kind t x ≡ false → leading t (x ∷ xs) ≡ 0
unfolding leading
other t x xs e = ap (λ (u : Bool). cond u (suc (leading t xs)) 0) e

counted : (t : Bool) (s : List ℕ) → prefix_len (λ (x : ℕ). not (not (is_kind t x))) s ≡ leading t s
unfolding leading
counted t [] = refl
counted t (x ∷ xs) = pick (is_kind t x) (counted t xs)
  where
    pick : (u : Bool) → prefix_len (λ (y : ℕ). not (not (is_kind t y))) xs ≡ leading t xs
        → cond (not (not u)) (1 + prefix_len (λ (y : ℕ). not (not (is_kind t y))) xs) 0 ≡ cond u (suc (leading t xs)) 0
    pick true e = omega arith
    pick false e = refl

pub leading-most : (t : Bool) (s : List ℕ) → leading t s ≤ length s
unfolding leading
leading-most t [] = omega arith
leading-most t (x ∷ xs) = pick (is_kind t x) (leading-most t xs)
  where
    pick : (u : Bool) → leading t xs ≤ length xs → cond u (suc (leading t xs)) 0 ≤ suc (length xs)
    pick true h = omega arith
    pick false h = omega arith

pub leading-place : (t : Bool) (s : List ℕ) → unwrap_or (position (λ (x : ℕ). not (is_kind t x)) s) (length s) ≡ leading t s
leading-place t s =
    let e = counted t s in
    place-or (prefix_len (λ (x : ℕ). not (not (is_kind t x))) s) (length s) (omega (arith, e, leading-most t s)) ∙ e

-- ---- the first word

skip : (x : ℕ) (xs : List ℕ) → blank x ≡ true → split (x ∷ xs) ≡ split xs
unfolding split
skip x xs e = ap (λ (u : Bool). cond u (split xs) (cond (ends xs) ((x ∷ []) ∷ split xs) (onto x (split xs)))) e

letter : (x : ℕ) (xs : List ℕ) → blank x ≡ false → split (x ∷ xs) ≡ cond (ends xs) ((x ∷ []) ∷ split xs) (onto x (split xs))
unfolding split
letter x xs e = ap (λ (u : Bool). cond u (split xs) (cond (ends xs) ((x ∷ []) ∷ split xs) (onto x (split xs)))) e

-- what a list is that starts with the word of k letters
Word : List ℕ → ℕ → Type 0
Word s k = split s ≡ take k s ∷ split (drop k s)

more : (x y : ℕ) (ys : List ℕ) (t : Bool) → blank x ≡ false → blank y ≡ t → (blank y ≡ false → Word (y ∷ ys) (leading false (y ∷ ys)))
    → Word (x ∷ y ∷ ys) (suc (leading false (y ∷ ys)))
unfolding Word onto ends
more x y ys true e f h =
    rw (other false y ys (ap not f)) (letter x (y ∷ ys) e ∙ ap (λ (u : Bool). cond u ((x ∷ []) ∷ split (y ∷ ys)) (onto x (split (y ∷ ys)))) f)
more x y ys false e f h =
    letter x (y ∷ ys) e ∙ ap (λ (u : Bool). cond u ((x ∷ []) ∷ split (y ∷ ys)) (onto x (split (y ∷ ys)))) f ∙ ap (onto x) (h f)

word-here : (x : ℕ) (xs : List ℕ) → blank x ≡ false → Word (x ∷ xs) (leading false (x ∷ xs))
unfolding Word leading ends split
word-here x [] e = rw (kind false x [] (ap not e)) (letter x [] e)
word-here x (y ∷ ys) e = rw (kind false x (y ∷ ys) (ap not e)) (more x y ys (blank y) e refl (word-here y ys))

-- the first word behind the blanks, from which k letters stand
First : List ℕ → ℕ → Type 0
First s k = split s ≡ take k (drop (leading true s) s) ∷ split (drop k (drop (leading true s) s))

letters : List ℕ → ℕ
letters s = leading false (drop (leading true s) s)

behind : (x : ℕ) (xs : List ℕ) (t : Bool) → blank x ≡ t → (letters xs ≡ 0 → split xs ≡ []) → letters (x ∷ xs) ≡ 0 → split (x ∷ xs) ≡ []
unfolding letters
behind x xs true e h k = skip x xs e ∙ h (rw (kind true x xs e) at k)
behind x xs false e h k = absurd (omega (arith, rw (other true x xs e, kind false x xs (ap not e)) at k))

none_left : (s : List ℕ) → letters s ≡ 0 → split s ≡ []
unfolding letters split
none_left [] k = refl
none_left (x ∷ xs) k = behind x xs (blank x) refl (none_left xs) k

before-word : (x : ℕ) (xs : List ℕ) (t : Bool) → blank x ≡ t → (0 < letters xs → First xs (letters xs))
    → 0 < letters (x ∷ xs) → First (x ∷ xs) (letters (x ∷ xs))
unfolding letters First Word
before-word x xs true e h k = rw (kind true x xs e) (skip x xs e ∙ h (rw (kind true x xs e) at k))
before-word x xs false e h k = rw (other true x xs e) (word-here x xs e)

one_more : (s : List ℕ) → 0 < letters s → First s (letters s)
unfolding letters First leading
one_more [] k = absurd (omega arith)
one_more (x ∷ xs) k = before-word x xs (blank x) refl (one_more xs) k

-- b blanks stand from byte i on, and k letters behind them
pub next-is : (s : List ℕ) (i b k : ℕ) → i ≤ length s → b ≡ leading true (part s i (length s)) → b ≤ length (part s i (length s))
    → k ≡ leading false (part s (i + b) (length s)) → k ≤ length (part s (i + b) (length s)) → NextWord s i (i + b) (i + b + k)
unfolding letters First
next-is s i b k h p q r t =
    let p' : b ≡ leading true (drop i s) = p ∙ ap (leading true) (to_end s i) in
    let r' : k ≡ leading false (drop (i + b) s) = r ∙ ap (leading false) (to_end s (i + b)) in
    let here : drop (leading true (drop i s)) (drop i s) ≡ drop (i + b) s = ap (λ (n : ℕ). drop n (drop i s)) (sym p') ∙ drop-drop b i s in
    let few : leading false (drop (leading true (drop i s)) (drop i s)) ≡ k = ap (leading false) here ∙ sym r' in
    let size : i + b + k - (i + b) ≡ k = omega arith in
    let word : take (leading false (drop (leading true (drop i s)) (drop i s))) (drop (leading true (drop i s)) (drop i s)) ≡ part s (i + b) (i + b + k) =
    ap (λ (n : ℕ). take n (drop (leading true (drop i s)) (drop i s))) (few ∙ sym size) ∙ ap (take (i + b + k - (i + b))) here in
    let rest : drop (leading false (drop (leading true (drop i s)) (drop i s))) (drop (leading true (drop i s)) (drop i s)) ≡ drop (i + b + k) s =
    ap (λ (n : ℕ). drop n (drop (leading true (drop i s)) (drop i s))) few ∙ ap (drop k) here ∙ drop-drop k (i + b) s in
    record {
      after = omega arith;
      order = omega arith;
      within = omega (arith, length-drop i s, length-drop (i + b) s, ap length (to_end s i), ap length (to_end s (i + b)));
      none = λ e. none_left (drop i s) (few ∙ omega arith);
      word = λ l. one_more (drop i s) (omega (arith, few)) ∙ cc (word, rest);
    }
