-- A row of the root past its last flat page, from place e up to n, passes where both tables' words are 0; o is the whole row's test. Assumes nothing.
use mathlib.Core.Path.{◌≡◌, refl, sym, ◌∙◌}
use mathlib.Core.List.{List}
use mathlib.Core.Bool.{Bool, true, false, not, ◌&&◌, false≢true}
use Prim.Native.Nat.{ℕ, ◌+◌, ◌-◌, ◌≤◌, ◌<◌, min}
use native.Mathlib.Omega.{arith}
use lib.Dec.{leb, eqb}
use lib.ListN.{get_or}
use borrow.Author.Tests.{lt-leb}
use Rattle.walk.specs.Finite.{from, all}
use Rattle.own_pages.proofs.Laws.Tests.{yes, no, and-false, and_fst, and_snd, fails}
use Rattle.own_pages.proofs.Laws.Loops.{all-at, all_yes}
use Rattle.tally.specs.Run.{run, asking}
use Rattle.tally.specs.Rows.{root_words}
use Rattle.tally.proofs.Laws.Run.{all-run, run-skip}

abbrev zero : List ℕ → ℕ → Bool
zero m j = eqb (get_or m j 0) 0

module _ (b t flat v : ℕ) (pt s2 : List ℕ) where
  -- what is asked at place j
  abbrev pub asked_at : ℕ → Bool
  asked_at j = root_words b t flat (v + j) (get_or pt j 0) (get_or s2 j 0)

  module _ (k n : ℕ) {e : ℕ} (q : e ≡ min (flat + 1 - v) n) (h : n ≤ k) where
    past : (j : ℕ) → e ≤ j → j < n → asked_at j ≡ zero s2 j && zero pt j
    past j a l = rw (lt-leb (v + j) flat (omega arith), and-false (leb 1 (v + j))) refl

    module _ {o : Bool} (g : o ≡ run (asking asked_at) true (from (k - e) e)) where
      -- f is a part of what is asked there
      part : (f : ℕ → Bool) → ((j : ℕ) → zero s2 j && zero pt j ≡ true → f j ≡ true) → all f (from (n - e) e) ≡ false → false ≡ o
      part f s z = sym (fails o (λ y. false≢true (sym z ∙ all_yes f (n - e) e (λ j a l.
          s j (sym (past j a (omega arith)) ∙ all-at asked_at (k - e) e (all-run asked_at (from (k - e) e) ∙ sym g ∙ y) j a (omega arith))))))

      -- x and y are what the code was told of the two tables
      pub flat-stop : {x : Bool} → x ≡ all (λ i. eqb (get_or pt i 0) 0) (from (n - e) e) → not x ≡ true → false ≡ o
      flat-stop z f = part (zero pt) (λ j. and_snd (zero s2 j) (zero pt j)) (no z f)

      pub flat_stop₂ : {y : Bool} → y ≡ all (λ i. eqb (get_or s2 i 0) 0) (from (n - e) e) → not y ≡ true → false ≡ o
      flat_stop₂ z f = part (zero s2) (λ j. and_fst (zero s2 j) (zero pt j)) (no z f)

      pub flat-past : {x y : Bool} → x ≡ all (λ i. eqb (get_or pt i 0) 0) (from (n - e) e) → not x ≡ false
          → y ≡ all (λ i. eqb (get_or s2 i 0) 0) (from (n - e) e) → not y ≡ false → o ≡ run (asking asked_at) true (from (k - n) n)
      flat-past z f z₂ f₂ = g ∙ run-skip (asking asked_at) k e n true (omega arith) (λ j a l. past j a l
          ∙ rw (all-at (zero s2) (n - e) e (yes z₂ f₂) j a (omega arith)) (all-at (zero pt) (n - e) e (yes z f) j a (omega arith)))
