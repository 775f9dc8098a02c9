-- Writing a list of words over others: what lies before, among and after them. Assumes nothing.
use mathlib.Core.Path.{◌≡◌, refl, sym, ap, ◌∙◌}
use mathlib.Core.Logic.{◌⊎◌, inl, inr}
use mathlib.Core.List.{List, [], ◌∷◌, ◌++◌}
use Prim.Native.Nat.{ℕ, zero, suc, min, ◌+◌, ◌-◌, ◌≤◌, ◌<◌}
use native.Mathlib.Nat.{zero-add, suc-add, le_of_suc-le-suc, not-suc-le-zero}
use native.Mathlib.Decide.{dec_le}
use native.Mathlib.Omega.{arith}
use lib.ListN.{length, get_or, set, take, drop, replicate, take-append-drop}
use Rattle.common.specs.Words.{overwrite}

pub length-overwrite : (m : List ℕ) (i : ℕ) (ws : List ℕ) → length (overwrite m i ws) ≡ length m
length-overwrite [] i ws = refl
length-overwrite (x ∷ xs) zero [] = refl
length-overwrite (x ∷ xs) zero (w ∷ ws) = ap suc (length-overwrite xs zero ws)
length-overwrite (x ∷ xs) (suc i) ws = ap suc (length-overwrite xs i ws)

-- before the words written, and after them, all is as it was
pub overwrite-before : (m : List ℕ) (i : ℕ) (ws : List ℕ) (j : ℕ) → j < i → get_or (overwrite m i ws) j 0 ≡ get_or m j 0
overwrite-before [] i ws j h = refl
overwrite-before (x ∷ xs) zero ws j h = absurd (not-suc-le-zero h)
overwrite-before (x ∷ xs) (suc i) ws zero h = refl
overwrite-before (x ∷ xs) (suc i) ws (suc j) h = overwrite-before xs i ws j (le_of_suc-le-suc h)

pub overwrite-after : (m : List ℕ) (i : ℕ) (ws : List ℕ) (j : ℕ) → i + length ws ≤ j → get_or (overwrite m i ws) j 0 ≡ get_or m j 0
overwrite-after [] i ws j h = refl
overwrite-after (x ∷ xs) zero [] j h = refl
overwrite-after (x ∷ xs) zero (w ∷ ws) zero h = absurd (not-suc-le-zero {n = length ws} (omega arith))
overwrite-after (x ∷ xs) zero (w ∷ ws) (suc j) h = overwrite-after xs zero ws j (omega arith)
overwrite-after (x ∷ xs) (suc i) ws zero h = absurd (not-suc-le-zero {n = i + length ws} (omega arith))
overwrite-after (x ∷ xs) (suc i) ws (suc j) h = overwrite-after xs i ws j (omega arith)

pub overwrite-at : (m : List ℕ) (i : ℕ) (ws : List ℕ) (j : ℕ) → j < length ws → i + j < length m → get_or (overwrite m i ws) (i + j) 0 ≡ get_or ws j 0
overwrite-at [] i ws j h k = absurd (not-suc-le-zero k)
overwrite-at (x ∷ xs) zero [] j h k = absurd (not-suc-le-zero h)
overwrite-at (x ∷ xs) zero (w ∷ ws) zero h k = refl
overwrite-at (x ∷ xs) zero (w ∷ ws) (suc j) h k = rw zero-add (rw zero-add at (overwrite-at xs zero ws j (omega arith) (omega arith)))
overwrite-at (x ∷ xs) (suc i) ws j h k = rw suc-add (overwrite-at xs i ws j h (omega arith))

pub overwrite-past : (m : List ℕ) (i : ℕ) (ws : List ℕ) → length m ≤ i → overwrite m i ws ≡ m
overwrite-past [] i ws h = refl
overwrite-past (x ∷ xs) zero ws h = absurd (not-suc-le-zero h)
overwrite-past (x ∷ xs) (suc i) ws h = ap (λ (l : List ℕ). x ∷ l) (overwrite-past xs i ws (le_of_suc-le-suc h))

-- one word
pub overwrite-one : (m : List ℕ) (i x : ℕ) → overwrite m i (x ∷ []) ≡ set m i x
overwrite-one [] i x = refl
overwrite-one (y ∷ []) zero x = refl
overwrite-one (y ∷ z ∷ m) zero x = refl
overwrite-one (y ∷ m) (suc i) x = ap (λ (l : List ℕ). y ∷ l) (overwrite-one m i x)

head-part : (m : List ℕ) (j : ℕ) (ws : List ℕ) → (length ws ≤ j) ⊎ (length m ≤ j) → overwrite (take j m) 0 ws ++ drop j m ≡ overwrite m 0 ws
head-part [] zero ws h = refl
head-part [] (suc j) ws h = refl
head-part (x ∷ xs) zero [] h = refl
head-part (x ∷ xs) zero (w ∷ ws) (inl h) = absurd (not-suc-le-zero h)
head-part (x ∷ xs) zero (w ∷ ws) (inr h) = absurd (not-suc-le-zero h)
head-part (x ∷ xs) (suc j) [] h = ap (λ (l : List ℕ). x ∷ l) (take-append-drop j xs)
head-part (x ∷ xs) (suc j) (w ∷ ws) (inl h) = ap (λ (l : List ℕ). w ∷ l) (head-part xs j ws (inl (le_of_suc-le-suc h)))
head-part (x ∷ xs) (suc j) (w ∷ ws) (inr h) = ap (λ (l : List ℕ). w ∷ l) (head-part xs j ws (inr (le_of_suc-le-suc h)))

mid-part : (m : List ℕ) (a j : ℕ) (ws : List ℕ) → (length ws ≤ j) ⊎ (length m ≤ a + j)
    → take a m ++ (overwrite (take j (drop a m)) 0 ws ++ drop j (drop a m)) ≡ overwrite m a ws
mid-part m zero j ws (inl h) = head-part m j ws (inl h)
mid-part m zero j ws (inr h) = head-part m j ws (inr (omega arith))
mid-part [] (suc a) zero ws h = refl
mid-part [] (suc a) (suc j) ws h = refl
mid-part (x ∷ xs) (suc a) j ws (inl h) = ap (λ (l : List ℕ). x ∷ l) (mid-part xs a j ws (inl h))
mid-part (x ∷ xs) (suc a) j ws (inr h) = ap (λ (l : List ℕ). x ∷ l) (mid-part xs a j ws (inr (omega arith)))

-- the part is n words from s on, or as many of them as there are
pub part-back : (m : List ℕ) (s n a e : ℕ) (ws : List ℕ) → length ws ≤ n → a ≡ min s (length m) → e ≡ min (s + n) (length m)
    → take a m ++ (overwrite (take (e - a) (drop a m)) 0 ws ++ drop (e - a) (drop a m)) ≡ overwrite m s ws
part-back m s n a e ws k p q = pick (dec_le s (length m)) (dec_le (s + n) (length m))
  where
    pick : Dec (s ≤ length m) → Dec (s + n ≤ length m) → take a m ++ (overwrite (take (e - a) (drop a m)) 0 ws ++ drop (e - a) (drop a m)) ≡ overwrite m s ws
    pick (yes l) (yes t) = let z : a ≡ s = omega arith in mid-part m a (e - a) ws (inl (omega arith)) ∙ ap (λ (i : ℕ). overwrite m i ws) z
    pick (yes l) (no t) = let z : a ≡ s = omega arith in mid-part m a (e - a) ws (inr (omega arith)) ∙ ap (λ (i : ℕ). overwrite m i ws) z
    pick (no l) t = mid-part m a (e - a) ws (inr (omega arith)) ∙ overwrite-past m a ws (omega arith) ∙ sym (overwrite-past m s ws (omega arith))

pub zeros : (s : List ℕ) (n : ℕ) → length s ≤ n → replicate (length s) 0 ≡ overwrite s 0 (replicate n 0)
zeros [] n h = refl
zeros (x ∷ xs) zero h = absurd (not-suc-le-zero h)
zeros (x ∷ xs) (suc n) h = ap (λ (l : List ℕ). 0 ∷ l) (zeros xs n (le_of_suc-le-suc h))

-- the first words, as many as fit
pub copied : (s ws : List ℕ) (n : ℕ) → n ≡ min (length s) (length ws) → take n ws ++ drop n s ≡ overwrite s 0 ws
copied [] ws zero e = refl
copied [] ws (suc n) e = absurd (omega (arith, e))
copied (x ∷ xs) [] zero e = refl
copied (x ∷ xs) [] (suc n) e = absurd (omega (arith, e))
copied (x ∷ xs) (w ∷ ws) zero e = absurd (omega (arith, e))
copied (x ∷ xs) (w ∷ ws) (suc n) e = ap (λ (l : List ℕ). w ∷ l) (copied xs ws n (omega (arith, e)))
