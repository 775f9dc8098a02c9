-- What a test that the code made tells of the test that it stands for: f is that test, x the code's, u and v its numbers. Assumes nothing.
use mathlib.Core.Path.{◌≡◌, refl, sym, ◌∙◌}
use mathlib.Core.Bool.{Bool, true, false, not, ◌&&◌, false≢true}
use mathlib.Core.Logic.{◌≢◌}
use Prim.Native.Nat.{ℕ}
use lib.Dec.{leb, ltb, eqb}
use borrow.Author.Tests.{not-true, not-false, eq-eqb, ne_eqb}

pub yes : {x f : Bool} → x ≡ f → not x ≡ false → f ≡ true
yes {x} e t = sym e ∙ not-false x t

pub no : {x f : Bool} → x ≡ f → not x ≡ true → f ≡ false
no {x} e t = sym e ∙ not-true x t

module _ {x y u v : ℕ} (e : x ≡ u) (q : y ≡ v) where
  pub equal : x ≡ y → eqb u v ≡ true
  equal h = eq-eqb u v (sym e ∙ h ∙ q)

  pub unequal : x ≢ y → eqb u v ≡ false
  unequal h = ne_eqb u v (λ z. h (e ∙ z ∙ sym q))

  pub same-eqb : eqb x y ≡ eqb u v
  same-eqb = rw (e, q)

  pub same-leb : leb x y ≡ leb u v
  same-leb = rw (e, q)

  pub same-ltb : ltb x y ≡ ltb u v
  same-ltb = rw (e, q)

-- a test that fails, wherever it stands
pub and-false : (f : Bool) → f && false ≡ false
and-false true = refl
and-false false = refl

pub and-true : (f : Bool) → f && true ≡ f
and-true true = refl
and-true false = refl

pub and_assoc : (x y z : Bool) → x && (y && z) ≡ x && y && z
and_assoc true y z = refl
and_assoc false y z = refl

pub and_swap : (x y u v : Bool) → x && y && (u && v) ≡ x && u && (y && v)
and_swap false y u v = refl
and_swap true false true v = refl
and_swap true false false v = refl
and_swap true true u v = refl

-- the parts of a test that holds
pub and_fst : (x y : Bool) → x && y ≡ true → x ≡ true
and_fst true y e = refl
and_fst false y e = e

pub and_snd : (x y : Bool) → x && y ≡ true → y ≡ true
and_snd true y e = e
and_snd false y e = absurd (false≢true e)

-- a test that can not hold
pub fails : (x : Bool) → (x ≡ true → ⊥) → x ≡ false
fails true h = absurd (h refl)
fails false h = refl

-- two tests that hold together
pub same_test : (x y : Bool) → (x ≡ true → y ≡ true) → (y ≡ true → x ≡ true) → x ≡ y
same_test true y f g = sym (f refl)
same_test false true f g = g refl
same_test false false f g = refl
