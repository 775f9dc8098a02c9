-- Tests made one after the other, joined by and or by or, or chosen by another. Assumes nothing.
use mathlib.Core.Path.{◌≡◌, refl, sym, ap, ◌∙◌}
use mathlib.Core.Bool.{Bool, true, false, cond, not, ◌&&◌, ◌||◌, false≢true}
use borrow.Author.Tests.{not-true, not-false}

-- ---- r was answered for the test t, and looked at

module _ {r t : Bool} (answered : r ≡ t) where
  pub fails : not r ≡ true → t ≡ false
  fails h = sym answered ∙ not-true r h

  pub passes : not r ≡ false → t ≡ true
  passes h = sym answered ∙ not-false r h

-- ---- joined by and: the first test fails; or it holds, and the second comes to v

pub stops : {s : Bool} → s ≡ false → (t : Bool) → (s && t) ≡ false
stops e t = ap (λ (u : Bool). u && t) e

pub then : {s t v : Bool} → s ≡ true → t ≡ v → (s && t) ≡ v
then {t = t} e f = ap (λ (u : Bool). u && t) e ∙ f

pub both : (s t : Bool) → (s && t) ≡ true → (s ≡ true) × (t ≡ true)
both true t e = (refl, e)
both false t e = absurd (false≢true e)

-- ---- joined by or: the first test holds; or it fails, and the second comes to v

pub holds : {s : Bool} → s ≡ true → (t : Bool) → (s || t) ≡ true
holds e t = ap (λ (u : Bool). u || t) e

pub or_else : {s t v : Bool} → s ≡ false → t ≡ v → (s || t) ≡ v
or_else {t = t} e f = ap (λ (u : Bool). u || t) e ∙ f

-- ---- chosen

module _ {A : Type 0} {s : Bool} where
  pub chosen : s ≡ true → (x y : A) → cond s x y ≡ x
  chosen e x y = ap (λ (u : Bool). cond u x y) e

  pub not_chosen : s ≡ false → (x y : A) → cond s x y ≡ y
  not_chosen e x y = ap (λ (u : Bool). cond u x y) e
