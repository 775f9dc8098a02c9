-- Runs of words that are 0: words that were joined are 0 where each is. Assumes nothing.
use mathlib.Core.Path.{◌≡◌, refl, sym, ap, ◌∙◌}
use mathlib.Core.List.{List}
use mathlib.Core.Bool.{Bool, true, false, not, ◌&&◌, ◌||◌}
use Prim.Native.Nat.{ℕ, ◌+◌, ◌-◌, ◌≤◌, ◌<◌, min}
use native.Mathlib.Omega.{arith}
use native.Mathlib.Decide.{dec_lt}
use lib.Bits.{bit_or}
use lib.Dec.{leb, eqb}
use lib.ListN.{length, get_or, get_or-eq_default}
use borrow.Author.Tests.{eq-eqb, le-leb, lt-leb}
use Rattle.walk.specs.Finite.{from, all}
use Rattle.memory.specs.Geometry.{page_words}
use Rattle.memory.specs.Words.{word, index}
use Rattle.pages.proofs.Bits.{or_test}
use Rattle.own_pages.proofs.Laws.Tests.{same_test, and_assoc}
use Rattle.own_pages.proofs.Laws.Loops.{all-go-on, all-at, all_yes}

-- f at each: j is what was joined below i, w what is joined at i
module _ {o : Bool} (f : ℕ → Bool) (n i : ℕ) where
  pub join_more : (j w : ℕ) → i < n → eqb w 0 ≡ f i → o ≡ eqb j 0 && all f (from (n - i) i) → o ≡ eqb (bit_or j w) 0 && all f (from (n - (i + 1)) (i + 1))
  join_more j w h e v =
      v ∙ ap (λ (t : Bool). eqb j 0 && t) (all-go-on f n i h ∙ ap (λ (t : Bool). t && all f (from (n - (i + 1)) (i + 1))) (sym e))
      ∙ and_assoc (eqb j 0) (eqb w 0) (all f (from (n - (i + 1)) (i + 1)))
      ∙ ap (λ (t : Bool). t && all f (from (n - (i + 1)) (i + 1))) (sym (or_test j w))

  pub join-end : (j : ℕ) → all f (from (n - i) i) ≡ true → o ≡ eqb j 0 && all f (from (n - i) i) → eqb j 0 ≡ o
  join-end j e v = sym (v ∙ ap (λ (t : Bool). eqb j 0 && t) e ∙ last (eqb j 0))
    where
      last : (t : Bool) → t && true ≡ t
      last true = refl
      last false = refl

-- past the end of the memory, or of what was asked, there is nothing but 0
pub past_end : (m : List ℕ) (e i : ℕ) → min e (length m) ≤ i → all (λ k. eqb (get_or m k 0) 0) (from (e - i) i) ≡ true
past_end m e i h = all_yes (λ k. eqb (get_or m k 0) 0) (e - i) i (λ k a l. eq-eqb (get_or m k 0) 0 (get_or-eq_default m 0 (omega arith)))

-- the words of page p from k on, by their indices
pub by_index : (b : ℕ) (m : List ℕ) (p k : ℕ)
    → all (λ i. eqb (get_or m i 0) 0) (from (index b p (page_words b) - index b p k) (index b p k)) ≡ all (λ i. not (leb k i) || eqb (word b m p i) 0) (from (page_words b) 0)
by_index b m p k =
    same_test (all run (from (index b p (page_words b) - index b p k) (index b p k))) (all rest (from (page_words b) 0)) there back
  where
    run : ℕ → Bool
    run i = eqb (get_or m i 0) 0

    rest : ℕ → Bool
    rest i = not (leb k i) || eqb (word b m p i) 0

    there : all run (from (index b p (page_words b) - index b p k) (index b p k)) ≡ true → all rest (from (page_words b) 0) ≡ true
    there e = all_yes rest (page_words b) 0 (λ i a l. elim (dec_lt i k) [
      | yes h ↦ rw (lt-leb k i h) refl
      | no h ↦ rw (le-leb k i (omega arith)) (all-at run (index b p (page_words b) - index b p k) (index b p k) e (index b p i) (omega arith) (omega arith))
    ])

    back : all rest (from (page_words b) 0) ≡ true → all run (from (index b p (page_words b) - index b p k) (index b p k)) ≡ true
    back e = all_yes run (index b p (page_words b) - index b p k) (index b p k) (λ x a l.
        let i : ℕ = x - index b p 0 in
        let q : index b p i ≡ x = omega arith in
        let r : not (leb k i) || eqb (word b m p i) 0 ≡ true = all-at rest (page_words b) 0 e i (omega arith) (omega arith) in
        let s : eqb (get_or m (index b p i) 0) 0 ≡ true = rw (le-leb k i (omega arith)) at r in
        rw q at s)

-- a is the index of its word k, e that of its end; r is what the code was told of the run between them
pub page-rest : (b : ℕ) (m : List ℕ) (p k : ℕ) {a e n : ℕ} {r : Bool} → a ≡ index b p k → e ≡ index b p n → n ≡ page_words b
    → r ≡ all (λ i. eqb (get_or m i 0) 0) (from (e - a) a) → r ≡ all (λ i. not (leb k i) || eqb (word b m p i) 0) (from (page_words b) 0)
page-rest b m p k {a} {e} u v w h =
    h ∙ ap (λ (x : ℕ). all (λ i. eqb (get_or m i 0) 0) (from (e - x) x)) u
    ∙ ap (λ (x : ℕ). all (λ i. eqb (get_or m i 0) 0) (from (x - index b p k) (index b p k))) (v ∙ ap (index b p) w)
    ∙ by_index b m p k
