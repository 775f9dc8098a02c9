-- Words among bytes. Assumes nothing.
use mathlib.Core.Path.{◌≡◌, sym, ap, ◌∙◌}
use mathlib.Core.Bool.{true}
use mathlib.Core.List.{List, [], ◌∷◌, ◌++◌, append_assoc}
use Prim.Native.Nat.{ℕ, zero, suc, ◌+◌, ◌*◌, ◌/◌, ◌%◌, ◌<◌}
use native.Mathlib.Nat.{div-add-mod, div-div-eq-div-mul, div-lt_iff_lt-mul, mod-eq_of_lt}
use native.Mathlib.Omega.{arith}
use lib.ListN.{length, get_or, length-append}
use lib.Seq.{get_or-append_seam, get_or-append-add}
use Rattle.walk.specs.Reflect.{both}
use Rattle.rules.specs.Bytes.{little_endian, word_in}
use Rattle.text.specs.Numbers.{number, is_number, all_numbers}
use Rattle.text.specs.Lines.{arguments}
use Rattle.text.proofs.Values.{itself, number?}

-- four bytes are their word
pub four_bytes : (x : ℕ) → x < 4294967296 → word_in (little_endian x) 0 ≡ x
four_bytes x h =
    let a : 256 * (x / 256) + x % 256 ≡ x = div-add-mod x 256 in
    let b : 256 * (x / 65536) + x / 256 % 256 ≡ x / 256 = rw (div-div-eq-div-mul x 256 256) at (div-add-mod (x / 256) 256) in
    let c : 256 * (x / 16777216) + x / 65536 % 256 ≡ x / 65536 = rw (div-div-eq-div-mul x 65536 256) at (div-add-mod (x / 65536) 256) in
    let d : x / 16777216 % 256 ≡ x / 16777216 = mod-eq_of_lt ((div-lt_iff_lt-mul {k = 16777216} (omega arith)).1 h) in
    sum (x / 256) (x / 65536) (x / 16777216) (x % 256) (x / 256 % 256) (x / 65536 % 256) (x / 16777216 % 256) x a b c d
  where
    sum : (p q r i j k l y : ℕ) → 256 * p + i ≡ y → 256 * q + j ≡ p → 256 * r + k ≡ q → l ≡ r → i + 256 * j + 65536 * k + 16777216 * l ≡ y
    sum p q r i j k l y e f g m = omega arith

pub word-here : (front rest : List ℕ) (x : ℕ) → x < 4294967296 → word_in (front ++ (little_endian x ++ rest)) (length front) ≡ x
word-here front rest x h =
    let bytes = little_endian x ++ rest in
    omega (
      arith,
      four_bytes x h,
      get_or-append_seam front (x % 256) ((x / 256 % 256) ∷ (x / 65536 % 256) ∷ (x / 16777216 % 256) ∷ rest) 0,
      get_or-append-add front bytes 1 0,
      get_or-append-add front bytes 2 0,
      get_or-append-add front bytes 3 0,
    )

-- the numbers of words, one behind the other
pub number-here : (front rest : List ℕ) (ws : List (List ℕ)) (j : ℕ) → all_numbers ws ≡ true → j < length ws
    → word_in (front ++ (arguments ws ++ rest)) (length front + 4 * j) ≡ number (get_or ws j [])
unfolding all_numbers arguments
number-here front rest [] j e h = absurd (omega arith)
number-here front rest (w ∷ ws) zero e h =
    let i : length front + 4 * 0 ≡ length front = omega arith in
    let small = ((number? w).0 ((both {s = is_number w} {t = all_numbers ws} itself itself).0 e).0).1 in
    ap (λ (k : ℕ). word_in (front ++ (arguments (w ∷ ws) ++ rest)) k) i ∙ word-here front (arguments ws ++ rest) (number w) small
number-here front rest (w ∷ ws) (suc j) e h =
    let first = little_endian (number w) in
    let i : length front + 4 * suc j ≡ length (front ++ first) + 4 * j = omega (arith, length-append front first) in
    ap (λ (k : ℕ). word_in (front ++ (arguments (w ∷ ws) ++ rest)) k) i
    ∙ ap (λ (l : List ℕ). word_in l (length (front ++ first) + 4 * j)) (sym (append_assoc front first (arguments ws ++ rest)))
    ∙ number-here (front ++ first) rest ws j ((both {s = is_number w} {t = all_numbers ws} itself itself).0 e).1 (omega arith)
