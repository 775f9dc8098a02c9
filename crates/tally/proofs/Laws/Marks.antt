-- Marking the pages of a list one after the other: the kernel pages of a partition by their places. Assumes nothing.
use mathlib.Core.Path.{◌≡◌, refl, sym, ap, ◌∙◌, subst}
use mathlib.Core.List.{List, ◌∷◌, ◌++◌}
use mathlib.Core.Bool.{Bool, true, false, not}
use mathlib.Core.Option.{Option, none, some}
use mathlib.Core.Logic.{◌≢◌}
use Prim.Native.Nat.{ℕ, zero, suc, ◌+◌, ◌-◌, ◌*◌, ◌≤◌, ◌<◌}
use native.Mathlib.Omega.{arith}
use borrow.Author.Tests.{not-true, not-false}
use lib.ListN.{length, get_or, drop, drop_of_length-le, get_or-append}
use lib.Seq.{drop-cons, get_or-append-add}
use Rattle.walk.specs.Marks.{Seen, and_then, mark, marks, marks_append, each-go, each-stop, each-done, answer, passed, failed}
use Rattle.memory.specs.Geometry.{page_of}
use Rattle.memory.specs.Words.{word}
use Rattle.memory.specs.Partition.{list, threes}
use Rattle.memory.specs.Uses.{five_pages}
use Rattle.soundness.specs.Test.{listed_pages, hand_pages, own}
use Rattle.soundness.proofs.Used.{listed_at}

-- ---- a list by its places: o is what the whole comes to, j were marked

next : (xs : List ℕ) (j : ℕ) → j < length xs → drop j xs ≡ get_or xs j 0 ∷ drop (j + 1) xs
next xs j h = let q : suc j ≡ j + 1 = omega arith in drop-cons xs j 0 h ∙ ap (λ (i : ℕ). get_or xs j 0 ∷ drop i xs) q

module _ {o : Option Seen} (xs : List ℕ) (j : ℕ) (s : Seen) where
  pub mark_went : {x : ℕ} (r : Bool) (t : Seen) → j < length xs → x ≡ get_or xs j 0 → mark s x ≡ answer r t → not r ≡ false → o ≡ marks s (drop j xs) → o ≡ marks t (drop (j + 1) xs)
  mark_went {x} r t h q e y i =
      i ∙ ap (marks s) (next xs j h) ∙ each-go mark s (get_or xs j 0) (drop (j + 1) xs) t (subst (λ (u : ℕ). mark s u ≡ some t) q (passed (mark s x) r t e (not-false r y)))

  pub mark-failed : {x : ℕ} (r : Bool) (t : Seen) → j < length xs → x ≡ get_or xs j 0 → mark s x ≡ answer r t → not r ≡ true → o ≡ marks s (drop j xs) → o ≡ none
  mark-failed {x} r t h q e y i =
      i ∙ ap (marks s) (next xs j h) ∙ each-stop mark s (get_or xs j 0) (drop (j + 1) xs) (subst (λ (u : ℕ). mark s u ≡ none) q (failed (mark s x) r t e (not-true r y)))

  pub mark-end : length xs ≤ j → o ≡ marks s (drop j xs) → o ≡ some s
  mark-end h i = i ∙ ap (marks s) (drop_of_length-le xs h) ∙ each-done mark s

-- ---- the pages that d uses

module _ (b : ℕ) (m : List ℕ) (d : ℕ) where
  five-at : (j : ℕ) → j ≢ 0 → j < 5 → page_of b (word b m d (2 * j + 1)) ≡ get_or (five_pages b m d) j 0
  five-at zero n h = absurd (n refl)
  five-at (suc zero) n h = refl
  five-at (suc (suc zero)) n h = refl
  five-at (suc (suc (suc zero))) n h = refl
  five-at (suc (suc (suc (suc zero)))) n h = refl
  five-at (suc (suc (suc (suc (suc j))))) n h = absurd (omega arith)

  pub kernel-five : (j : ℕ) → j ≢ 0 → j < 5 → page_of b (word b m d (2 * j + 1)) ≡ get_or (five_pages b m d ++ listed_pages b m d) j 0
  kernel-five j n h = five-at j n h ∙ sym (get_or-append (five_pages b m d) (listed_pages b m d) 0 j h)

  pub kernel-listed : (j : ℕ) → 5 ≤ j → j < 5 + 3 * threes b m d → page_of b (word b m (list b m d) (2 + 2 * (j - 5))) ≡ get_or (five_pages b m d ++ listed_pages b m d) j 0
  kernel-listed j l h =
      let e : 5 + (j - 5) ≡ j = omega arith in
      sym (listed_at b m d (j - 5) (omega arith))
      ∙ sym (get_or-append-add (five_pages b m d) (listed_pages b m d) (j - 5) 0)
      ∙ ap (λ (i : ℕ). get_or (five_pages b m d ++ listed_pages b m d) i 0) e

  own_is : (s : Seen) → marks s (own b m d) ≡ and_then (marks s (five_pages b m d ++ listed_pages b m d)) (λ t. marks t (hand_pages b m d))
  unfolding own
  own_is s = marks_append s (five_pages b m d ++ listed_pages b m d) (hand_pages b m d)

  pub own-no : (s : Seen) → marks s (five_pages b m d ++ listed_pages b m d) ≡ none → marks s (own b m d) ≡ none
  unfolding and_then
  own-no s e = own_is s ∙ ap (λ (o : Option Seen). and_then o (λ t. marks t (hand_pages b m d))) e

  pub own-yes : (s t : Seen) → marks s (five_pages b m d ++ listed_pages b m d) ≡ some t → marks s (own b m d) ≡ marks t (hand_pages b m d)
  unfolding and_then
  own-yes s t e = own_is s ∙ ap (λ (o : Option Seen). and_then o (λ u. marks u (hand_pages b m d))) e
