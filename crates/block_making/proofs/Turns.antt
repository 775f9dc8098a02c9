-- Two loops, turn by turn: one fills a list from the front, one changes the memory for each number of a list. Assumes nothing.
use mathlib.Core.Path.{◌≡◌, refl, sym, ap, subst, ◌∙◌}
use mathlib.Core.List.{List, [], ◌∷◌, ◌++◌, append-nil}
use Prim.Native.Nat.{ℕ, zero, suc, ◌+◌, ◌≤◌, ◌<◌}
use native.Mathlib.Nat.{not-suc-le-zero, le_of_suc-le-suc}
use native.Mathlib.Numerals.{add-one}
use native.Mathlib.Omega.{arith}
use lib.ListN.{length, get_or, set, drop, drop_of_length-le}
use lib.Seq.{drop-cons}
use Rattle.walk.specs.Finite.{from, image, length-image}
use Rattle.block_memory.specs.Words.{over}

pub length_from : (n i : ℕ) → length (from n i) ≡ n
unfolding from
length_from zero i = refl
length_from (suc n) i = ap suc (length_from n (suc i))

-- ---- place i gets what h is at s + i

module _ (h : ℕ → ℕ) where
  -- i places filled, the others as they were
  abbrev pub filled : ℕ → List ℕ → ℕ → List ℕ
  filled s d i = image h (from i s) ++ drop i d

  fill_suc : (s i v : ℕ) (d : List ℕ) → i < length d → v ≡ h (s + i) → set (filled s d i) i v ≡ filled s d (suc i)
  unfolding image from
  fill_suc s i v [] l e = absurd (not-suc-le-zero l)
  fill_suc s zero v (x ∷ d) l e = ap (λ (y : ℕ). y ∷ d) (e ∙ ap h (omega arith))
  fill_suc s (suc i) v (x ∷ d) l e = ap (λ (t : List ℕ). h s ∷ t) (fill_suc (suc s) i v d (le_of_suc-le-suc l) (e ∙ ap h (omega arith)))

  pub fill_none : (s : ℕ) (d : List ℕ) → d ≡ filled s d 0
  unfolding image from
  fill_none s d = refl

  pub fill_more : (s i : ℕ) (d : List ℕ) {out : List ℕ} {v : ℕ} → i < length d → out ≡ filled s d i → v ≡ h (s + i) → set out i v ≡ filled s d (i + 1)
  fill_more s i d {out} {v} l e w =
      ap (λ (t : List ℕ). set t i v) e ∙ subst (λ (k : ℕ). set (filled s d i) i v ≡ filled s d k) (sym (add-one i)) (fill_suc s i v d l w)

  pub fill-all : (s i : ℕ) (d : List ℕ) {out : List ℕ} → i ≡ length d → out ≡ filled s d i → out ≡ image h (from (length d) s)
  fill-all s i d {out} q e =
      let none : length d ≤ i = omega arith in
      e ∙ ap (λ (l : List ℕ). image h (from i s) ++ l) (drop_of_length-le d none) ∙ append-nil (image h (from i s))
      ∙ ap (λ (k : ℕ). image h (from k s)) q

  pub length-all : (s n : ℕ) {out : List ℕ} → out ≡ image h (from n s) → length out ≡ n
  length-all s n {out} e = ap length e ∙ length-image h (from n s) ∙ length_from n s

-- ---- a change for each number of xs from place i on

module _ (f : List ℕ → ℕ → List ℕ) (m xs : List ℕ) (i : ℕ) where
  pub turn : i < length xs → over f (f m (get_or xs i 0)) (drop (i + 1) xs) ≡ over f m (drop i xs)
  unfolding over
  turn l = sym (ap (over f m) (drop-cons xs i 0 l ∙ ap (λ (k : ℕ). get_or xs i 0 ∷ drop k xs) (sym (add-one i))))

  pub last_turn : length xs ≤ i → m ≡ over f m (drop i xs)
  unfolding over
  last_turn l = sym (ap (over f m) (drop_of_length-le xs l))
