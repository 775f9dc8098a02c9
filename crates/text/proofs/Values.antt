-- Digits, numbers and words that are numbers. Assumes nothing.
use mathlib.Core.Path.{◌≡◌, refl, sym, ap, ◌∙◌}
use mathlib.Core.Bool.{Bool, true, false, ◌&&◌}
use mathlib.Core.List.{List, [], ◌∷◌}
use Prim.Native.Nat.{ℕ, ◌+◌, ◌-◌, ◌*◌, ◌^◌, ◌≤◌, ◌<◌}
use native.Mathlib.Nat.{pow-succ', pow-le-pow_right}
use native.Mathlib.Numerals.{add-one}
use native.Mathlib.Omega.{arith}
use lib.Dec.{ltb}
use lib.ListN.{length, get_or, drop}
use borrow.Author.Tests.{le-leb, lt-leb}
use Rattle.walk.specs.Reflect.{Tells, both, le?, lt?}
use Rattle.std.specs.List.{list_all}
use Rattle.text.specs.Text.{split}
use Rattle.text.specs.Numbers.{is_digit, all_digits, value, number, is_number, all_numbers}
use Rattle.text.specs.Steps.{part, NextWord}
use Rattle.text.proofs.Cuts.{cons_at, end-at}

-- ---- digits

pub digit? : {x : ℕ} → Tells (is_digit x) ((48 ≤ x) × (x ≤ 57))
digit? = both le? le?

pub itself : {t : Bool} → Tells t (t ≡ true)
itself = ((λ e. e), λ e. e)

pub each-digit : (w : List ℕ) → list_all is_digit w ≡ all_digits w
unfolding all_digits
each-digit [] = refl
each-digit (x ∷ xs) = ap (λ (t : Bool). is_digit x && t) (each-digit xs)

module _ (w : List ℕ) (i : ℕ) where
  here : i < length w → all_digits (drop i w) ≡ is_digit (get_or w i 0) && all_digits (drop (i + 1) w)
  unfolding all_digits
  here h = ap all_digits (cons_at w i h)

  -- where all from byte i on are digits, so is that one, and so are the others
  pub digit-here : i < length w → all_digits (drop i w) ≡ true → ((48 ≤ get_or w i 0) × (get_or w i 0 ≤ 57)) × (all_digits (drop (i + 1) w) ≡ true)
  digit-here h e = (both digit? itself).0 (sym (here h) ∙ e)

  -- ---- their value

  pub value-more : (v : ℕ) → i < length w → value v (drop i w) ≡ value (10 * v + (get_or w i 0 - 48)) (drop (i + 1) w)
  unfolding value
  value-more v h = ap (value v) (cons_at w i h)

  pub value-over : (v : ℕ) → length w ≤ i → value v (drop i w) ≡ v
  unfolding value
  value-over v h = ap (value v) (end-at w i h)

-- i digits are below 10^i
pub grows : (v i d : ℕ) → v < 10 ^ i → d ≤ 9 → 10 * v + d < 10 ^ (i + 1)
grows v i d h k = let e : 10 ^ (i + 1) ≡ 10 * 10 ^ i = ap (λ (j : ℕ). 10 ^ j) (add-one i) ∙ pow-succ' 10 i in omega arith

pub ten-digits : (v i : ℕ) → v < 10 ^ i → i ≤ 10 → v < 10000000000
ten-digits v i h k = omega (arith, pow-le-pow_right {n = 10} (omega arith) {i = i} {j = 10} k)

-- ---- numbers

pub number? : (w : List ℕ) → Tells (is_number w) ((((1 ≤ length w) × (length w ≤ 10)) × (all_digits w ≡ true)) × (number w < 4294967296))
unfolding is_number
number? w = both (both (both le? le?) itself) lt?

module _ (w : List ℕ) where
  pub no-digits : length w < 1 → false ≡ is_number w
  unfolding is_number
  no-digits h = rw (lt-leb 1 (length w) h) refl

  pub too_wide : 1 ≤ length w → 10 < length w → false ≡ is_number w
  unfolding is_number
  too_wide h k = rw (le-leb 1 (length w) h, lt-leb (length w) 10 k) refl

  pub not-digits : 1 ≤ length w → length w ≤ 10 → all_digits w ≡ false → false ≡ is_number w
  unfolding is_number
  not-digits h k e = rw (le-leb 1 (length w) h, le-leb (length w) 10 k, e) refl

  pub by_value : (v : ℕ) → 1 ≤ length w → length w ≤ 10 → all_digits w ≡ true → v ≡ number w → ltb v 4294967296 ≡ is_number w
  unfolding is_number
  by_value v h k e f = rw (le-leb 1 (length w) h, le-leb (length w) 10 k, e) (ap (λ (x : ℕ). ltb x 4294967296) f)

-- ---- words from byte i on that are numbers

module _ (s : List ℕ) {i a e : ℕ} (n : NextWord s i a e) where
  pub no_word : a ≡ e → all_numbers (split (drop i s)) ≡ true
  unfolding all_numbers
  no_word q = ap all_numbers (n.none q)

  first : a < e → all_numbers (split (drop i s)) ≡ is_number (part s a e) && all_numbers (split (drop e s))
  unfolding all_numbers
  first l = ap all_numbers (n.word l)

  pub no_number : a < e → is_number (part s a e) ≡ false → all_numbers (split (drop i s)) ≡ false
  no_number l q = first l ∙ ap (λ (t : Bool). t && all_numbers (split (drop e s))) q

  pub a-number : a < e → is_number (part s a e) ≡ true → all_numbers (split (drop i s)) ≡ all_numbers (split (drop e s))
  a-number l q = first l ∙ ap (λ (t : Bool). t && all_numbers (split (drop e s))) q

  pub number-here : a < e → all_numbers (split (drop i s)) ≡ true → (is_number (part s a e) ≡ true) × (all_numbers (split (drop e s)) ≡ true)
  number-here l q = (both itself itself).0 (sym (first l) ∙ q)
