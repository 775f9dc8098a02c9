-- When two memories have the same lookups. Assumes nothing.
use mathlib.Core.Path.{◌≡◌, refl, sym, ap, ◌∙◌}
use mathlib.Core.List.{List}
use mathlib.Core.Bool.{Bool, true, false, cond, ◌&&◌}
use Prim.Native.Nat.{ℕ, ◌+◌, ◌*◌, ◌/◌, ◌%◌, ◌≤◌}
use native.Mathlib.Omega.{arith}
use native.Mathlib.Decide.{ℕ_discrete}
use lib.Dec.{leb}
use borrow.Author.Tests.{eq-eqb, ne_eqb}
use Rattle.walk.specs.Reflect.{both, le?}
use Rattle.block_memory.specs.Words.{word}
use Rattle.block_memory.specs.Partition.{entry, structure, Has, slot, field}

chosen : (t : Bool) (x y : ℕ) → (t ≡ true → x ≡ y) → cond t x 0 ≡ cond t y 0
chosen true x y h = h refl
chosen false x y h = refl

-- where word f of slot n stands in its structure
abbrev pub in_structure : ℕ → ℕ → ℕ
in_structure n f = 2 + 9 * (n % 8) + f

-- ---- the same words, counted from the start of the descriptor or structure

word_same : (m m' : List ℕ) {i j : ℕ} → i ≡ j → word m' j ≡ word m j → word m' i ≡ word m i
word_same m m' e h = ap (word m') e ∙ h ∙ ap (word m) (sym e)

pub entry-same : (m m' : List ℕ) (d e : ℕ) → (1 ≤ e → e ≤ 8 → word m' (d + (7 + e)) ≡ word m (d + (7 + e))) → entry m' d e ≡ entry m d e
unfolding entry
entry-same m m' d e h = chosen (leb 1 e && leb e 8) _ _ (λ t.
    let r = (both {P = 1 ≤ e} {Q = e ≤ 8} le? le?).0 t in
    word_same m m' (omega arith) (h r.0 r.1))

pub structure-same : (m m' : List ℕ) (d k : ℕ) → (1 ≤ k → k ≤ 16 → word m' (d + (15 + k)) ≡ word m (d + (15 + k))) → structure m' d k ≡ structure m d k
unfolding structure
structure-same m m' d k h = chosen (leb 1 k && leb k 16) _ _ (λ t.
    let r = (both {P = 1 ≤ k} {Q = k ≤ 16} le? le?).0 t in
    word_same m m' (omega arith) (h r.0 r.1))

pub entry-at : (m : List ℕ) (d e : ℕ) → 1 ≤ e → e ≤ 8 → entry m d e ≡ word m (d + 7 + e)
unfolding entry
entry-at m d e a b = ap (λ (t : Bool). cond t (word m (d + 7 + e)) 0) ((both {P = 1 ≤ e} {Q = e ≤ 8} le? le?).1 (a, b))

pub structure-at : (m : List ℕ) (d k : ℕ) → 1 ≤ k → k ≤ 16 → structure m d k ≡ word m (d + 15 + k)
unfolding structure
structure-at m d k a b = ap (λ (t : Bool). cond t (word m (d + 15 + k)) 0) ((both {P = 1 ≤ k} {Q = k ≤ 16} le? le?).1 (a, b))

pub field_at : (m : List ℕ) (d n f : ℕ) → Has m d n → field m d n f ≡ word m (slot m d n + f)
unfolding field
field_at m d n f h = ap (λ (t : Bool). cond t 0 (word m (slot m d n + f))) (ne_eqb (structure m d (n / 8)) 0 h)

pub field-none : (m : List ℕ) (d n f : ℕ) → structure m d (n / 8) ≡ 0 → field m d n f ≡ 0
unfolding field
field-none m d n f h = ap (λ (t : Bool). cond t 0 (word m (slot m d n + f))) (eq-eqb (structure m d (n / 8)) 0 h)

pub field-same : (m m' : List ℕ) (d n f : ℕ) → structure m' d (n / 8) ≡ structure m d (n / 8)
    → (Has m d n → word m' (structure m d (n / 8) + in_structure n f) ≡ word m (structure m d (n / 8) + in_structure n f)) → field m' d n f ≡ field m d n f
field-same m m' d n f e h = elim (ℕ_discrete (structure m d (n / 8)) 0) [
  | yes z ↦ field-none m' d n f (e ∙ z) ∙ sym (field-none m d n f z)
  | no z ↦
      field_at m' d n f (λ w. z (sym e ∙ w)) ∙ ap (λ (x : ℕ). word m' (x + 2 + 9 * (n % 8) + f)) e
      ∙ word_same m m' (omega arith) (h z) ∙ sym (field_at m d n f z)
]
