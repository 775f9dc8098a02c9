-- The line that has N, by what the tests say. Assumes nothing.
use mathlib.Core.Path.{◌≡◌, refl, sym, ap, ◌∙◌}
use mathlib.Core.Bool.{true, false}
use mathlib.Core.List.{List, [], ◌∷◌}
use Prim.Native.Nat.{ℕ, ◌≤◌, ◌<◌}
use lib.ListN.{length}
use borrow.Author.Tests.{eq-eqb, ne_eqb, le-leb, lt-leb}
use Rattle.text.specs.Text.{split}
use Rattle.text.specs.Numbers.{number, is_number}
use Rattle.text.specs.Lines.{pages_of}
use Rattle.text.specs.Steps.{part, NextWord}
use Rattle.text.proofs.Cuts.{to_end}

module _ (w : List ℕ) (ws : List (List ℕ)) where
  more : (length ws ≡ 0 → ⊥) → 0 ≡ pages_of (w ∷ ws)
  unfolding pages_of
  more z = rw (ne_eqb (length ws) 0 z) refl

  other : length ws ≡ 0 → is_number w ≡ false → 0 ≡ pages_of (w ∷ ws)
  unfolding pages_of
  other z f = rw (eq-eqb (length ws) 0 z, f) refl

  small : length ws ≡ 0 → is_number w ≡ true → number w < 16 → 0 ≡ pages_of (w ∷ ws)
  unfolding pages_of
  small z f h = rw (eq-eqb (length ws) 0 z, f, lt-leb 16 (number w) h) refl

  large : length ws ≡ 0 → is_number w ≡ true → 16 ≤ number w → 256 < number w → 0 ≡ pages_of (w ∷ ws)
  unfolding pages_of
  large z f h k = rw (eq-eqb (length ws) 0 z, f, le-leb 16 (number w) h, lt-leb (number w) 256 k) refl

  good : length ws ≡ 0 → is_number w ≡ true → 16 ≤ number w → number w ≤ 256 → number w ≡ pages_of (w ∷ ws)
  unfolding pages_of
  good z f h k = rw (eq-eqb (length ws) 0 z, f, le-leb 16 (number w) h, le-leb (number w) 256 k) refl

pub no_word : (s : List ℕ) → split s ≡ [] → 0 ≡ pages_of (split s)
unfolding pages_of
no_word s q = ap pages_of (sym q)

-- a line whose first word stands from a up to e; `others` words follow
module _ (s : List ℕ) {a e : ℕ} (n : NextWord s 0 a e) where
  module _ (l : a < e) (others : ℕ) (o : others ≡ length (split (part s e (length s)))) where
    words : pages_of (part s a e ∷ split (part s e (length s))) ≡ pages_of (split s)
    words = ap pages_of (ap (λ (r : List ℕ). part s a e ∷ split r) (to_end s e) ∙ sym (n.word l))

    pub more-words : (others ≡ 0 → ⊥) → 0 ≡ pages_of (split s)
    more-words z = more (part s a e) (split (part s e (length s))) (λ q. z (o ∙ q)) ∙ words

    pub no_number : others ≡ 0 → is_number (part s a e) ≡ false → 0 ≡ pages_of (split s)
    no_number z f = other (part s a e) (split (part s e (length s))) (sym o ∙ z) f ∙ words

    module _ (z : others ≡ 0) (f : is_number (part s a e) ≡ true) (v : ℕ) (q : v ≡ number (part s a e)) where
      pub too_small : v < 16 → 0 ≡ pages_of (split s)
      too_small h = small (part s a e) (split (part s e (length s))) (sym o ∙ z) f (rw q at h) ∙ words

      pub too_large : 16 ≤ v → 256 < v → 0 ≡ pages_of (split s)
      too_large h k = large (part s a e) (split (part s e (length s))) (sym o ∙ z) f (rw q at h) (rw q at k) ∙ words

      pub is-pages : 16 ≤ v → v ≤ 256 → v ≡ pages_of (split s)
      is-pages h k = q ∙ good (part s a e) (split (part s e (length s))) (sym o ∙ z) f (rw q at h) (rw q at k) ∙ words
