-- Numbers that are passed over: a 0 for each that a test leaves out, and changes that leave 0 out. Assumes nothing.
use mathlib.Core.Path.{◌≡◌, refl, sym, ap, ap₂, ◌∙◌}
use mathlib.Core.Logic.{◌≢◌}
use mathlib.Core.List.{List, [], ◌∷◌}
use mathlib.Core.Bool.{Bool, true, false, false≢true, cond, ◌&&◌}
use Prim.Native.Nat.{ℕ}
use borrow.Author.Tests.{eq-eqb, ne_eqb}
use Rattle.walk.specs.Finite.{keep, image}
use Rattle.block_memory.specs.Words.{over}
use Rattle.block_making.specs.Deleting.{marked, passing}

-- ---- two tests

pub agree : (x y : Bool) → (x ≡ true → y ≡ true) → (y ≡ true → x ≡ true) → x ≡ y
agree true y f g = sym (f refl)
agree false true f g = g refl
agree false false f g = refl

pub fails : (x : Bool) → ¬ (x ≡ true) → x ≡ false
fails x n = agree x false (λ e. absurd (n e)) (λ e. absurd (false≢true e))

-- ---- one number

module _ (g : List ℕ → ℕ → List ℕ) (m : List ℕ) (x : ℕ) where
  pub passed : x ≡ 0 → m ≡ passing g m x
  passed h = sym (ap (λ (b : Bool). cond b m (g m x)) (eq-eqb x 0 h))

  pub changed : x ≢ 0 → g m x ≡ passing g m x
  changed h = sym (ap (λ (b : Bool). cond b m (g m x)) (ne_eqb x 0 h))

-- ---- a list of them

pub over-image : (f : List ℕ → ℕ → List ℕ) (h : ℕ → ℕ) (m xs : List ℕ) → over (λ w x. f w (h x)) m xs ≡ over f m (image h xs)
unfolding over image
over-image f h m [] = refl
over-image f h m (x ∷ xs) = over-image f h (f m (h x)) xs

pub image-image : (h k : ℕ → ℕ) (xs : List ℕ) → image h (image k xs) ≡ image (λ x. h (k x)) xs
unfolding image
image-image h k [] = refl
image-image h k (x ∷ xs) = ap (λ (l : List ℕ). h (k x) ∷ l) (image-image h k xs)

-- kept twice
pub keep-keep : (f g : ℕ → Bool) (xs : List ℕ) → keep f (keep g xs) ≡ keep (λ x. g x && f x) xs
unfolding keep
keep-keep f g [] = refl
keep-keep f g (x ∷ xs) = go (g x) (keep-keep f g xs)
  where
    go : (t : Bool) → keep f (keep g xs) ≡ keep (λ y. g y && f y) xs
        → keep f (cond t (x ∷ keep g xs) (keep g xs)) ≡ cond (t && f x) (x ∷ keep (λ y. g y && f y) xs) (keep (λ y. g y && f y) xs)
    go true e = ap (λ (l : List ℕ). cond (f x) (x ∷ l) l) e
    go false e = e

-- kept by two tests that are the same
pub keep_same : (f g : ℕ → Bool) → ((x : ℕ) → f x ≡ g x) → (xs : List ℕ) → keep f xs ≡ keep g xs
unfolding keep
keep_same f g e [] = refl
keep_same f g e (x ∷ xs) = ap₂ (λ (b : Bool) (l : List ℕ). cond b (x ∷ l) l) (e x) (keep_same f g e xs)

-- the changes for each that is kept, where 0 isn't
pub over-keep : (g : List ℕ → ℕ → List ℕ) (f : ℕ → Bool) → f 0 ≡ false → (m xs : List ℕ) → over g m (keep f xs) ≡ over (passing g) m (image (marked f) xs)
unfolding over keep image
over-keep g f z m [] = refl
over-keep g f z m (x ∷ xs) = go (f x) refl (λ w. over-keep g f z w xs)
  where
    go : (t : Bool) → f x ≡ t → ((w : List ℕ) → over g w (keep f xs) ≡ over (passing g) w (image (marked f) xs))
        → over g m (cond t (x ∷ keep f xs) (keep f xs)) ≡ over (passing g) (passing g m (cond t x 0)) (image (marked f) xs)
    go true e ih =
        ap (λ (w : List ℕ). over g w (keep f xs)) (changed g m x (λ n. false≢true (sym z ∙ ap f (sym n) ∙ e))) ∙ ih (passing g m x)
    go false e ih = ih m
