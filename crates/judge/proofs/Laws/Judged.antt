-- The judgement of the whole, in the code's terms. Assumes nothing.
use mathlib.Core.Path.{◌≡◌, refl, sym, ap, ◌∙◌}
use mathlib.Core.Bool.{Bool, true, false, ◌&&◌, false≢true}
use mathlib.Core.List.{List, ◌∷◌}
use mathlib.Core.Option.{Option, none, some}
use Prim.Native.Nat.{ℕ, zero, suc, ◌-◌, ◌*◌, ◌≤◌, ◌<◌}
use native.Mathlib.Omega.{arith}
use native.Mathlib.Decide.{dec_lt}
use lib.Dec.{leb, eqb}
use lib.ListN.{length, get_or, take, replicate}
use borrow.Author.Tests.{lt-leb}
use Rattle.walk.specs.Finite.{from, all}
use Rattle.walk.specs.Marks.{Seen}
use Rattle.memory.specs.Geometry.{page_words, least_pages, most_pages}
use Rattle.memory.specs.Edition.{width}
use Rattle.memory.specs.Partition.{pages}
use Rattle.memory.proofs.Widths.{words-most}
use Rattle.soundness.specs.Test.{header_test, judged, sound_test}
use Rattle.judging.specs.Quick.{quick_test}
use Rattle.judging.proofs.Exact.{quick_exact}
use Rattle.own_pages.proofs.Laws.Tests.{and-false}

take-zeros : (n k : ℕ) → n ≤ k → take n (replicate {A = ℕ} k 0) ≡ replicate n 0
take-zeros zero k h = refl
take-zeros (suc n) zero h = absurd (omega arith)
take-zeros (suc n) (suc k) h = ap (λ (l : List ℕ). 0 ∷ l) (take-zeros n k (omega arith))

-- the first n of k words, all of them 0
pub zeros-part : (k n p : ℕ) → n ≡ p → n ≤ k → take (n - 0) (replicate {A = ℕ} k 0) ≡ replicate p 0
zeros-part k n p e h = let q : n - 0 ≡ p = omega arith in ap (λ (x : ℕ). take x (replicate {A = ℕ} k 0)) q ∙ take-zeros p k (omega arith)

module _ (b : ℕ) (m : List ℕ) where
  -- o is what the walk left
  pub judged-no : {o : Option Seen} → o ≡ none → false ≡ judged b m o
  unfolding judged
  judged-no e = rw e refl

  pub judged-yes : {o : Option Seen} (s : Seen) → o ≡ some s → judged b m o ≡ all (λ p. eqb (get_or s p 0) 1) (from (pages b m - 1) 1)
  unfolding judged
  judged-yes s e = rw e refl

  -- a header that passed has no more pages than are allowed
  header-most : header_test b m ≡ true → pages b m ≤ most_pages b
  header-most e = elim (dec_lt (most_pages b) (pages b m)) [ yes h ↦ absurd (false≢true (sym (many h) ∙ e)) | no h ↦ omega arith ]
    where
      many : most_pages b < pages b m → header_test b m ≡ false
      many h = unfold header_test in (rw (lt-leb (pages b m) (most_pages b) h, and-false (eqb (length m) (pages b m * page_words b) && leb least_pages (pages b m))) refl)

  pub pages-most : b ≤ 10 → header_test b m ≡ true → pages b m ≤ 4096
  pages-most h e = omega (arith, header-most e, words-most b h)

  pub unsound-header : header_test b m ≡ false → false ≡ sound_test b m
  unfolding sound_test
  unsound-header e = rw e refl

-- what the quick test tells at the memory's own width
pub verdict : (m : List ℕ) {b : ℕ} {r : Bool} → b ≡ width m → 6 ≤ b → r ≡ quick_test b m → r ≡ sound_test (width m) m
verdict m {b} e h q = q ∙ quick_exact b h m ∙ ap (λ (x : ℕ). sound_test x m) e
