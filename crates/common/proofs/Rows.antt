-- A row of refusals, gone through test by test. Assumes nothing.
use mathlib.Core.Path.{◌≡◌, refl, sym, ap, ◌∙◌}
use mathlib.Core.Logic.{◌≢◌}
use mathlib.Core.List.{List, [], ◌∷◌, ◌++◌}
use mathlib.Core.Bool.{Bool, true, false, cond}
use Prim.Native.Nat.{ℕ, zero, suc}
use native.Mathlib.Omega.{arith}
use Rattle.common.specs.Row.{Check, ◌when◌, first, ok, no, reply, pass}

-- the row comes to r, by its first test that holds
pub data First {R : Type 0} (number : R → ℕ) : List (Check R) → ℕ → Type 0 where
  none : First number [] 0
  on : {n : R} {t : Bool} {cs : List (Check R)} {r : ℕ} → t ≡ false → First number cs r → First number (n when t ∷ cs) r
  at : {n : R} {t : Bool} {cs : List (Check R)} → t ≡ true → First number (n when t ∷ cs) (number n)

-- every test is false
abbrev pub Passed : {R : Type 0} → List (Check R) → Type 0
Passed [] = Unit {0}
Passed (r when t ∷ cs) = (t ≡ false) × Passed cs

pub first-is : {R : Type 0} {number : R → ℕ} {cs : List (Check R)} {r : ℕ} → First number cs r → first number cs ≡ r
unfolding first
first-is none = refl
first-is {number = number} (on {n = n} {cs = cs} e h) = ap (λ (u : Bool). cond u (number n) (first number cs)) e ∙ first-is h
first-is {number = number} (at {n = n} {cs = cs} e) = ap (λ (u : Bool). cond u (number n) (first number cs)) e

pub split : {R : Type 0} (xs ys : List (Check R)) → Passed (xs ++ ys) → Passed xs × Passed ys
split [] ys p = (tt, p)
split (r when t ∷ xs) ys p = let q = split xs ys p.1 in ((p.0, q.0), q.1)

module _ {R : Type 0} (number : R → ℕ) where
  pub first-self : (cs : List (Check R)) → First number cs (first number cs)
  unfolding first
  first-self [] = none
  first-self (n when true ∷ cs) = at refl
  first-self (n when false ∷ cs) = on refl (first-self cs)

  pub first-passed : (cs : List (Check R)) → Passed cs → first number cs ≡ 0
  unfolding first
  first-passed [] p = refl
  first-passed (r when true ∷ cs) (p, q) = let z : ◌≡◌ {A = ℕ} 0 1 = cc in absurd (omega arith)
  first-passed (r when false ∷ cs) (p, q) = first-passed cs q

  first-stop : (xs ys : List (Check R)) → first number xs ≢ 0 → first number (xs ++ ys) ≡ first number xs
  unfolding first
  first-stop [] ys h = absurd (h refl)
  first-stop (r when true ∷ xs) ys h = refl
  first-stop (r when false ∷ xs) ys h = first-stop xs ys h

  -- ---- no refusal has the number 0

  module _ (some : (r : R) → number r ≢ 0) where
    -- the first test is false, and so are those behind it
    pub clear : (r : R) (t : Bool) (cs : List (Check R)) → first number (r when t ∷ cs) ≡ 0 → (t ≡ false) × (first number cs ≡ 0)
    unfolding first
    clear r true cs e = absurd (some r e)
    clear r false cs e = (refl, e)

    pub passed : (cs : List (Check R)) → first number cs ≡ 0 → Passed cs
    passed [] e = tt
    passed (r when t ∷ cs) e = let x = clear r t cs e in (x.0, passed cs x.1)

    first_more : (xs ys : List (Check R)) → first number xs ≡ 0 → first number (xs ++ ys) ≡ first number ys
    unfolding first
    first_more [] ys e = refl
    first_more (r when true ∷ xs) ys e = absurd (some r e)
    first_more (r when false ∷ xs) ys e = first_more xs ys e

    -- a row that goes on in another; n is what the first row comes to
    module _ (xs ys : List (Check R)) (n : ℕ) (is : n ≡ first number xs) where
      pub stops : n ≢ 0 → n ≡ first number (xs ++ ys)
      stops h = is ∙ sym (first-stop xs ys (λ e. h (is ∙ e)))

      pub goes_on : n ≡ 0 → first number ys ≡ first number (xs ++ ys)
      goes_on z = sym (first_more xs ys (sym is ∙ z))

-- a reply by its number

pub reply-ok : (n x : ℕ) → n ≡ 0 → ok x ≡ reply n x
unfolding reply
reply-ok n x e = ap (λ (k : ℕ). reply k x) (sym e)

pub reply-no : (n k x : ℕ) → n ≡ k → k ≢ 0 → no k ≡ reply n x
unfolding reply
reply-no n zero x e h = absurd (h refl)
reply-no n (suc k) x e h = ap (λ (i : ℕ). reply i x) (sym e)

-- of a refused call no word changes, and its own word does not matter

pub kept : (n : ℕ) (x y : List ℕ) → n ≢ 0 → y ≡ pass n x y
unfolding pass
kept zero x y h = absurd (h refl)
kept (suc n) x y h = refl

pub worded : (n x y : ℕ) → n ≢ 0 → reply n x ≡ reply n y
unfolding reply
worded zero x y h = absurd (h refl)
worded (suc n) x y h = refl
