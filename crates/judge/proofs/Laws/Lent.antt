-- What is asked of a shadow 1 word above 1, and the last that passed: what it spares, and the next. Assumes nothing.
use mathlib.Core.Logic.{◌≢◌}
use mathlib.Core.Path.{◌≡◌, refl, sym, ap, subst, ◌∙◌}
use mathlib.Core.List.{List}
use mathlib.Core.Bool.{Bool, true, false, cond, not, ◌&&◌, ◌||◌, false≢true}
use Prim.Native.Nat.{ℕ, ◌<◌}
use native.Mathlib.Omega.{arith}
use native.Mathlib.Decide.{dec_lt, ℕ_discrete}
use lib.Dec.{leb, eqb}
use borrow.Author.Tests.{not-false, eq-eqb, ne_eqb, le-leb, lt-leb}
use Rattle.memory.specs.Geometry.{page_of, most_threes}
use Rattle.memory.specs.Words.{word}
use Rattle.memory.specs.Partition.{directory, shadow1, parent, threes, table_for, table_word, mapping, lent}
use Rattle.memory.specs.Counts.{child_at}
use Rattle.memory.proofs.Tables.{table_word-absent}
use Rattle.soundness.specs.Test.{virtual, child_test, kernel_shut}
use Rattle.judging.specs.Quick.{entry_test}
use Rattle.own_pages.proofs.Laws.Tests.{and-false}
use Rattle.tally.specs.Rows.{below_words, lent_word, Passed, shadow1_word, cell_words, last_word}

-- the word of address x that the code read under a root that it had looked up
pub word-under : (b : ℕ) (m : List ℕ) {root r v u : ℕ} (x : ℕ) → u ≡ table_word b m r v → r ≡ root → v ≡ page_of b x → u ≡ table_word b m root (page_of b x)
word-under b m {root} {v = v} x e f g = e ∙ ap (λ (z : ℕ). table_word b m z v) f ∙ ap (table_word b m root) g

module _ (b : ℕ) (m : List ℕ) (d : ℕ) where
  -- where no page is mapped no child stands; and where one is, there is a table
  pub lent-absent : (x : ℕ) → mapping b m d x ≡ 0 → lent_word b m d x ≡ false
  unfolding child_at
  lent-absent x z = rw (eq-eqb (mapping b m d x) 0 z) (and-false (virtual b x && not (eqb (table_for b m d x) 0)))

  pub lent-told : (x : ℕ) → virtual b x ≡ true → mapping b m d x ≢ 0 → lent_word b m d x ≡ eqb (lent b m d x) 1
  unfolding child_at
  lent-told x v n =
      let t = ne_eqb (table_for b m d x) 0 (λ z. n (table_word-absent b m (directory b m d) (page_of b x) z)) in
      rw (v, t, ne_eqb (mapping b m d x) 0 n) refl

  -- a word that passed before passes
  pub passed-same : (v w : ℕ) {x to : ℕ} → x ≡ to → Passed b m d to → shadow1_word b m d v w x ≡ true
  passed-same v w {x} e h = elim (ℕ_discrete x 0) [
    | yes z ↦ rw (eq-eqb x 0 z) refl
    | no z ↦ elim (dec_lt 1 x) [
      | yes g ↦ rw (ne_eqb x 0 z, ne_eqb x 1 (λ o. omega (arith, g, o))) (sym (both z (lt-leb x 1 g)) ∙ again)
      | no l ↦ absurd (false≢true (sym (both z (le-leb x 1 (omega arith))) ∙ again))
    ]
  ]
    where
      again : (eqb x 0 || not (leb x 1) && lent_word b m d x) ≡ true
      again = ap (λ (y : ℕ). eqb y 0 || not (leb y 1) && lent_word b m d y) e ∙ h

      both : {t : Bool} → x ≢ 0 → leb x 1 ≡ t → (eqb x 0 || not (leb x 1) && lent_word b m d x) ≡ (not t && lent_word b m d x)
      both n q = rw (ne_eqb x 0 n, q)

  -- a word above 1 of a cell that passes has passed
  lent-passed : (v w x y : ℕ) → 1 < x → cell_words b m d v w x y ≡ true → lent_word b m d x ≡ true
  lent-passed v w x y g h =
      go (eqb x 0) (eqb x 1) (eqb w 0) (entry_test b m w) (virtual b y)
      (leb (threes b m (page_of b w)) most_threes && child_test b m d v (page_of b w) && kernel_shut b m d (page_of b w))
      (lent_word b m d x) (eqb d 1 || below_words b m (directory b m (parent b m d)) (shadow1 b m (parent b m d)) (word b m d 0) w y) (eqb y 0)
      (ne_eqb x 0 (λ e. omega (arith, g, e))) (ne_eqb x 1 (λ e. omega (arith, g, e))) h
    where
      go : (p q z e f c l o y : Bool) → p ≡ false → q ≡ false → cond z (p && y) (e && f && cond p true (cond q c l) && o) ≡ true → l ≡ true
      go true q z e f c l o y s t h = absurd (false≢true (sym s))
      go false true z e f c l o y s t h = absurd (false≢true (sym t))
      go false false true e f c l o y s t h = absurd (false≢true h)
      go false false false false f c l o y s t h = absurd (false≢true h)
      go false false false true false c l o y s t h = absurd (false≢true h)
      go false false false true true c false o y s t h = absurd (false≢true h)
      go false false false true true c true o y s t h = refl

  pub passed-next : (v w x y to : ℕ) {r : ℕ} {t : Bool}
      → Passed b m d to → t ≡ cell_words b m d v w x y → not t ≡ false → r ≡ last_word to x → Passed b m d r
  passed-next v w x y to {t = t} h e f q = elim (dec_lt 1 x) [
    | yes g ↦ subst (λ (z : ℕ). Passed b m d z) (sym (q ∙ ap (λ (s : Bool). cond s to x) (lt-leb x 1 g)))
        (ap (λ (s : Bool). s || not (leb x 1) && lent_word b m d x) (ne_eqb x 0 (λ z. omega (arith, g, z)))
        ∙ ap (λ (s : Bool). not s && lent_word b m d x) (lt-leb x 1 g) ∙ lent-passed v w x y g (sym e ∙ not-false t f))
    | no l ↦ subst (λ (z : ℕ). Passed b m d z) (sym (q ∙ ap (λ (s : Bool). cond s to x) (le-leb x 1 (omega arith)))) h
  ]
