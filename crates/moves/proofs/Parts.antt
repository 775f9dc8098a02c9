-- A part of a page, and a copy of it at the start of a buffer. Assumes nothing.
use mathlib.Core.Path.{◌≡◌, refl, sym, ap, ◌∙◌}
use mathlib.Core.List.{List, [], ◌∷◌}
use Prim.Native.Nat.{ℕ, zero, suc, min, ◌+◌, ◌-◌, ◌≤◌}
use native.Mathlib.Nat.{not-suc-le-zero, le_of_suc-le-suc}
use native.Mathlib.Omega.{arith}
use lib.ListN.{length, take, drop}
use lib.Seq.{drop-drop}
use Rattle.memory.specs.Geometry.{page_words}
use Rattle.memory.specs.Words.{page, start, index, overwrite}
use Rattle.pages.proofs.Slices.{part-is}

take-take : (n w : ℕ) (l : List ℕ) → n ≤ w → take n (take w l) ≡ take n l
take-take zero w l h = refl
take-take (suc n) zero l h = absurd (not-suc-le-zero h)
take-take (suc n) (suc w) [] h = refl
take-take (suc n) (suc w) (x ∷ l) h = ap (λ (t : List ℕ). x ∷ t) (take-take n w l (le_of_suc-le-suc h))

inner : (n i w : ℕ) (l : List ℕ) → n + i ≤ w → take n (drop i (take w l)) ≡ take n (drop i l)
inner n zero w l h = take-take n w l (omega arith)
inner n (suc i) zero l h = absurd (not-suc-le-zero {n = n + i} (omega arith))
inner n (suc i) (suc w) [] h = refl
inner n (suc i) (suc w) (x ∷ l) h = inner n i w l (omega arith)

pub part_of_page : (b : ℕ) (m : List ℕ) (p i n a e : ℕ) → a ≡ min (index b p i) (length m) → e ≡ min (index b p (i + n)) (length m) → n + i ≤ page_words b
    → take (e - a) (drop a m) ≡ take n (drop i (page b m p))
part_of_page b m p i n a e ha he hn =
    let h : e ≡ min (index b p i + n) (length m) = omega arith in
    part-is m (index b p i) n ha h
    ∙ ap (λ (l : List ℕ). take n l) (sym (drop-drop i (start b p) m))
    ∙ sym (inner n i (page_words b) (drop (start b p) m) hn)

-- what a copy of ws leaves at the start of a buffer that is long enough
pub head_copy : (s ws : List ℕ) → length ws ≤ length s → take (length ws) (overwrite s 0 ws) ≡ ws
head_copy [] [] h = refl
head_copy [] (w ∷ ws) h = absurd (not-suc-le-zero h)
head_copy (x ∷ xs) [] h = refl
head_copy (x ∷ xs) (w ∷ ws) h = ap (λ (t : List ℕ). w ∷ t) (head_copy xs ws (le_of_suc-le-suc h))
