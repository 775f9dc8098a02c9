-- The test of a partition in the order of the code: the forms of its own pages and the counts, then the cells and what its parent lends to it. Assumes nothing.
use mathlib.Core.Path.{◌≡◌, refl, sym, ap, ◌∙◌}
use mathlib.Core.Bool.{Bool, true, false, not, ◌&&◌, ◌||◌, false≢true}
use mathlib.Core.List.{List}
use Prim.Native.Nat.{ℕ, ◌≤◌}
use lib.Dec.{eqb}
use Rattle.walk.specs.Finite.{from, all}
use Rattle.memory.specs.Geometry.{page_words, most_threes}
use Rattle.memory.specs.Words.{word}
use Rattle.memory.specs.Partition.{parent, threes, mapping}
use Rattle.memory.specs.Counts.{tabled}
use Rattle.soundness.specs.Test.{descriptor_test, directory_test, list_test, threes_test}
use Rattle.judging.specs.Quick.{cell, shut_count, due_count, rising, lent_count, mapped_count, partition_test}
use Rattle.judge.specs.Alone.{alone_test, cells_test}
use Rattle.own_pages.proofs.Laws.Tests.{yes, no, and-false}
use Rattle.forms.proofs.Laws.Whole.{list-few}

last : (f c p q r : Bool) → f && c && p && q && r ≡ f && (p && q) && (c && r)
last false c p q r = refl
last true true p q r = refl
last true false p q r = sym (and-false (p && q))

module _ (b : ℕ) (m : List ℕ) (d : ℕ) where
  -- what is asked before the tables are swept; and after, where s pages are neither lent nor accessible, and k are the children's kernel pages
  abbrev formed : Bool
  formed = descriptor_test b m d && all (directory_test b m d) (from (page_words b) 0) && list_test b m d && threes_test b m d

  abbrev swept : ℕ → ℕ → Bool
  swept s k = eqb (mapping b m d 0) 0 && eqb s k

  alone_as : alone_test b m d ≡ formed && swept (shut_count b m d) (due_count b m d)
  unfolding alone_test
  alone_as = refl

  pub partition_as : partition_test b m d ≡ alone_test b m d && cells_test b m d (mapped_count b m d)
  unfolding partition_test alone_test cells_test
  partition_as =
      last formed (all (cell b m d) (tabled b m d)) (eqb (mapping b m d 0) 0) (eqb (shut_count b m d) (due_count b m d))
      (eqb d 1 || (rising b m d || eqb (lent_count b m (parent b m d) (word b m d 0)) (mapped_count b m d)))

  -- x and y are the code's answers to the two
  module _ {x : Bool} (e : x ≡ formed) where
    pub unformed : not x ≡ true → alone_test b m d ≡ false
    unformed t = alone_as ∙ ap (λ (f : Bool). f && swept (shut_count b m d) (due_count b m d)) (no e t)

    module _ (t : not x ≡ false) where
      pub few : threes b m d ≤ most_threes
      few = go (list_test b m d) refl
        where
          never : list_test b m d ≡ false → formed ≡ false
          never q = rw (q, and-false (descriptor_test b m d && all (directory_test b m d) (from (page_words b) 0))) refl

          go : (u : Bool) → list_test b m d ≡ u → threes b m d ≤ most_threes
          go true q = list-few b m d q
          go false q = absurd (false≢true (sym (never q) ∙ yes e t))

      pub tested : {y : Bool} {s k : ℕ} → s ≡ shut_count b m d → k ≡ due_count b m d → y ≡ swept s k → y ≡ alone_test b m d
      tested {s = s} {k = k} es ek q =
          q
          ∙ ap (λ (i : ℕ). swept i k) es
          ∙ ap (swept (shut_count b m d)) ek
          ∙ sym (alone_as ∙ ap (λ (f : Bool). f && swept (shut_count b m d) (due_count b m d)) (yes e t))
