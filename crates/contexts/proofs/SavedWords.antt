-- A copy of a page's words in an array of zeros: the words past the end of the memory are 0 there, as where they are read. Assumes nothing.
use mathlib.Core.Path.{◌≡◌, refl, sym, ap, ap₂, ◌∙◌}
use mathlib.Core.List.{List, [], ◌∷◌}
use Prim.Native.Nat.{ℕ, zero, suc, ◌+◌, ◌≤◌, ◌<◌}
use native.Mathlib.Nat.{zero-add}
use native.Mathlib.Omega.{arith}
use lib.ListN.{get_or, take, drop, replicate}
use lib.Seq.{get_or-take, get_or-drop}
use Rattle.memory.specs.Geometry.{page_words}
use Rattle.memory.specs.Words.{tabulate, start, page, word, overwrite}

-- f gives the first n words of l, from i on
abbrev Gives : List ℕ → ℕ → ℕ → (ℕ → ℕ) → Type 0
Gives l i n f = (k : ℕ) → k < n → get_or l k 0 ≡ f (i + k)

first : (l : List ℕ) (i n : ℕ) (f : ℕ → ℕ) → Gives l i (suc n) f → get_or l 0 0 ≡ f i
first l i n f h = let e : i + 0 ≡ i = omega arith in h 0 (omega arith) ∙ ap f e

later : (l : List ℕ) (i n : ℕ) (f : ℕ → ℕ) → Gives l i (suc n) f → (k : ℕ) → k < n → get_or l (suc k) 0 ≡ f (suc i + k)
later l i n f h k q = let e : i + suc k ≡ suc i + k = omega arith in h (suc k) (omega arith) ∙ ap f e

no_words : (i n : ℕ) (f : ℕ → ℕ) → Gives [] i n f → replicate n 0 ≡ tabulate i n f
unfolding tabulate
no_words i zero f h = refl
no_words i (suc n) f h = ap₂ (λ (x : ℕ) (l : List ℕ). x ∷ l) (first [] i n f h) (no_words (suc i) n f (later [] i n f h))

copied : (l : List ℕ) (i n : ℕ) (f : ℕ → ℕ) → Gives l i n f → overwrite (replicate n 0) 0 (take n l) ≡ tabulate i n f
unfolding tabulate
copied l i zero f h = refl
copied [] i (suc n) f h = no_words i (suc n) f h
copied (x ∷ l) i (suc n) f h = ap₂ (λ (y : ℕ) (t : List ℕ). y ∷ t) (first (x ∷ l) i n f h) (copied l (suc i) n f (later (x ∷ l) i n f h))

-- n words of page p, from word i on
pub saved-words : (b : ℕ) (m : List ℕ) (p i n : ℕ) → n + i ≤ page_words b
    → overwrite (replicate n 0) 0 (take n (drop i (page b m p))) ≡ tabulate 0 n (λ k. word b m p (i + k))
saved-words b m p i n h = copied (drop i (page b m p)) 0 n (λ k. word b m p (i + k)) given
  where
    given : Gives (drop i (page b m p)) 0 n (λ k. word b m p (i + k))
    given k q =
        get_or-drop i (page b m p) k 0 ∙ get_or-take (page_words b) (drop (start b p) m) (i + k) 0 (omega arith) ∙ get_or-drop (start b p) m (i + k) 0
        ∙ ap (λ (x : ℕ). word b m p (i + x)) (sym (zero-add k))
