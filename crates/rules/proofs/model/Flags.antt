-- The live flag is the last of a descriptor's words. Assumes nothing.
use mathlib.Core.Path.{◌≡◌, refl, ap, ◌∙◌}
use mathlib.Core.Logic.{◌≢◌}
use mathlib.Core.List.{List, [], ◌∷◌, ◌++◌}
use Prim.Native.Nat.{ℕ, zero, suc}
use lib.ListN.{length, get_or}
use Rattle.rules.proofs.model.Abs.{Abs, desc_words, desc_list}

last-other : (xs : List ℕ) (j x : ℕ) → j ≢ length xs → get_or (xs ++ x ∷ []) j 0 ≡ get_or xs j 0
last-other [] zero x n = absurd (n refl)
last-other [] (suc j) x n = refl
last-other (y ∷ ys) zero x n = refl
last-other (y ∷ ys) (suc j) x n = last-other ys j x (λ e. n (ap suc e))

last-zero : (xs : List ℕ) (j : ℕ) → get_or (xs ++ 0 ∷ []) j 0 ≡ get_or xs j 0
last-zero [] zero = refl
last-zero [] (suc j) = refl
last-zero (y ∷ ys) zero = refl
last-zero (y ∷ ys) (suc j) = last-zero ys j

module _ (b : ℕ) (A : Abs) (d : ℕ) where
  pub flag_word : get_or (desc_list b A d) 12 0 ≡ A.vcli d
  unfolding desc_list
  flag_word = refl

  -- the other words, and all of them where the flag is 0, are those of the twelve
  pub desc-other : (j : ℕ) → j ≢ 12 → get_or (desc_list b A d) j 0 ≡ get_or (desc_words b A d []) j 0
  unfolding desc_list
  desc-other j n = last-other (desc_words b A d []) j (A.vcli d) n

  pub desc-clear : A.vcli d ≡ 0 → (j : ℕ) → get_or (desc_list b A d) j 0 ≡ get_or (desc_words b A d []) j 0
  unfolding desc_list
  desc-clear e j = ap (λ (x : ℕ). get_or (desc_words b A d (x ∷ [])) j 0) e ∙ last-zero (desc_words b A d []) j
