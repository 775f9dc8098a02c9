-- Tests over a list: at each element, at some element, at exactly one. What is in a list is said by its count. Assumes nothing.
use Rattle.std.specs.Prelude.{◌≡◌, Bool, cond, ◌&&◌, ◌||◌, ◌↔◌, ℕ, zero, suc, ◌+◌, ◌≤◌, ◌<◌, eqb, length, get_or}
use Rattle.std.proofs.Math.Path.{refl, ap}
use Rattle.std.proofs.Common.{sym, ◌∙◌, eqb-true, eq-eqb}
use mathlib.Core.List.{List, [], ◌∷◌}
use Rattle.std.proofs.Math.Bool.{true, false}
use Rattle.std.proofs.lemmas.Bool.{false≢true}
use native.Mathlib.Omega.{arith}
use Rattle.std.proofs.Math.Decide.{ℕ_discrete, dec_lt}
use Rattle.walk.specs.Lists.{hit, hit_same, hit_eq, hit_other, count}
use Rattle.walk.specs.Reflect.{Tells, both}

-- i, i + 1, .., n numbers in all
unfoldable pub from : ℕ → ℕ → List ℕ
from zero i = []
from (suc n) i = i ∷ from n (suc i)

unfoldable pub all : (ℕ → Bool) → List ℕ → Bool
all f [] = true
all f (x ∷ xs) = f x && all f xs

abbrev pub any : (ℕ → Bool) → List ℕ → Bool
any f [] = false
any f (x ∷ xs) = f x || any f xs

-- the elements at which f holds
unfoldable pub keep : (ℕ → Bool) → List ℕ → List ℕ
keep f [] = []
keep f (x ∷ xs) = let r = keep f xs in cond (f x) (x ∷ r) r

-- g of each element
unfoldable pub image : (ℕ → ℕ) → List ℕ → List ℕ
image g [] = []
image g (x ∷ xs) = g x ∷ image g xs

-- f holds at one element
unfoldable pub once : (ℕ → Bool) → List ℕ → Bool
once f xs = eqb (length (keep f xs)) 1

-- exactly one number is so
abbrev pub One : (ℕ → Type 0) → Type 0
One P = (x : ℕ) × P x × ((y : ℕ) → P y → y ≡ x)

pub from_in : (n i x : ℕ) → 0 < count x (from n i) → (i ≤ x) × (x < i + n)
unfolding from count
from_in zero i x h = absurd (omega arith)
from_in (suc n) i x h = elim (ℕ_discrete x i) [ yes e ↦ (omega arith, omega arith) | no k ↦ let r = from_in n (suc i) x (omega (arith, hit_other x i k)) in (omega (arith, r.0), omega (arith, r.1)) ]

pub in_from : (n i x : ℕ) → i ≤ x → x < i + n → 0 < count x (from n i)
unfolding from count
in_from zero i x a b = absurd (omega arith)
in_from (suc n) i x a b = elim (ℕ_discrete x i) [ yes e ↦ omega (arith, hit_eq x i e) | no k ↦ omega (arith, in_from n (suc i) x (omega arith) (omega arith)) ]

pub from-once : (n i x : ℕ) → count x (from n i) ≤ 1
unfolding from count
from-once zero i x = omega arith
from-once (suc n) i x = elim (ℕ_discrete x i) [
  | yes e ↦ elim (dec_lt 0 (count x (from n (suc i)))) [ yes p ↦ absurd (let r = from_in n (suc i) x p in omega (arith, r.0)) | no q ↦ omega (arith, hit_eq x i e) ]
  | no k ↦ omega (arith, from-once n (suc i) x, hit_other x i k)
]

pub below : (n x : ℕ) → (0 < count x (from n 0)) ↔ (x < n)
below n x = ((λ h. let r = from_in n 0 x h in omega (arith, r.1)), λ h. in_from n 0 x (omega arith) (omega arith))

keep-count : (f : ℕ → Bool) (x : ℕ) (xs : List ℕ) → count x (keep f xs) ≡ cond (f x) (count x xs) 0
unfolding keep count
keep-count f x [] = nothing (f x)
  where
    nothing : (t : Bool) → ◌≡◌ {A = ℕ} 0 (cond t 0 0)
    nothing true = refl
    nothing false = refl
keep-count f x (y ∷ ys) = go (f y) refl (f x) refl (keep-count f x ys) (ℕ_discrete x y)
  where
    go : (t : Bool) → f y ≡ t → (u : Bool) → f x ≡ u → count x (keep f ys) ≡ cond (f x) (count x ys) 0 → Dec (x ≡ y) → count x (cond (f y) (y ∷ keep f ys) (keep f ys)) ≡ cond (f x) (hit x y + count x ys) 0
    go true p true q ih d = rw (p, q) (omega (arith, rw q at ih))
    go true p false q ih (yes e) = absurd (false≢true (sym q ∙ ap f e ∙ p))
    go true p false q ih (no n) = rw (p, q) (omega (arith, rw q at ih, hit_other x y n))
    go false p true q ih (yes e) = absurd (false≢true (sym p ∙ ap f (sym e) ∙ q))
    go false p true q ih (no n) = rw (p, q) (omega (arith, rw q at ih, hit_other x y n))
    go false p false q ih d = rw (p, q) (omega (arith, rw q at ih))

pub keep_in : (f : ℕ → Bool) (x : ℕ) (xs : List ℕ) → (0 < count x (keep f xs)) ↔ ((0 < count x xs) × (f x ≡ true))
keep_in f x xs = go (f x) refl (keep-count f x xs)
  where
    go : (t : Bool) → f x ≡ t → count x (keep f xs) ≡ cond (f x) (count x xs) 0 → (0 < count x (keep f xs)) ↔ ((0 < count x xs) × (f x ≡ true))
    go true e k = ((λ h. (omega (arith, rw e at k), e)), λ (h, t). omega (arith, rw e at k))
    go false e k = ((λ h. absurd (omega (arith, rw e at k))), λ (h, t). absurd (false≢true (sym e ∙ t)))

pub keep-once : (f : ℕ → Bool) (x : ℕ) (xs : List ℕ) → count x xs ≤ 1 → count x (keep f xs) ≤ 1
keep-once f x xs h = go (f x) refl (keep-count f x xs)
  where
    go : (t : Bool) → f x ≡ t → count x (keep f xs) ≡ cond (f x) (count x xs) 0 → count x (keep f xs) ≤ 1
    go true e k = omega (arith, rw e at k)
    go false e k = omega (arith, rw e at k)

pub image_in : (g : ℕ → ℕ) (y : ℕ) (xs : List ℕ) → 0 < count y (image g xs) → (x : ℕ) × (0 < count x xs) × (g x ≡ y)
unfolding image count
image_in g y [] h = absurd (omega arith)
image_in g y (x ∷ xs) h = elim (ℕ_discrete y (g x)) [ yes e ↦ (x, omega (arith, hit_same x), sym e) | no n ↦ further (image_in g y xs (omega (arith, hit_other y (g x) n))) ]
  where
    further : (z : ℕ) × (0 < count z xs) × (g z ≡ y) → (z : ℕ) × (0 < hit z x + count z xs) × (g z ≡ y)
    further (z, a, e) = (z, omega arith, e)

pub in_image : (g : ℕ → ℕ) (x : ℕ) (xs : List ℕ) → 0 < count x xs → 0 < count (g x) (image g xs)
unfolding image count
in_image g x [] h = absurd (omega arith)
in_image g x (y ∷ xs) h = elim (ℕ_discrete x y) [ yes e ↦ omega (arith, hit_eq (g x) (g y) (ap g e)) | no n ↦ omega (arith, in_image g x xs (omega (arith, hit_other x y n))) ]

pub image-once : (g : ℕ → ℕ) (y : ℕ) (xs : List ℕ) → ((x : ℕ) → count x xs ≤ 1) → ((u v : ℕ) → 0 < count u xs → 0 < count v xs → g u ≡ y → g v ≡ y → u ≡ v) → count y (image g xs) ≤ 1
unfolding image count
image-once g y [] one same = omega arith
image-once g y (x ∷ xs) one same =
    let ih : count y (image g xs) ≤ 1 = image-once g y xs (λ z. omega (arith, one z)) (λ u v a b. same u v (omega arith) (omega arith)) in
    elim (ℕ_discrete y (g x)) [
      | yes e ↦ elim (dec_lt 0 (count y (image g xs))) [ yes p ↦ absurd (twice e (image_in g y xs p)) | no q ↦ omega (arith, hit_eq y (g x) e) ]
      | no n ↦ omega (arith, hit_other y (g x) n)
    ]
  where
    twice : y ≡ g x → (z : ℕ) × (0 < count z xs) × (g z ≡ y) → ⊥
    twice e (z, a, q) =
        let s : x ≡ z = same x z (unfold count in (omega (arith, hit_same x))) (unfold count in (omega arith)) (sym e) q in
        let o : hit x x + count x xs ≤ 1 = unfold count in (one x) in
        omega (arith, hit_same x, o, ap (λ (k : ℕ). count k xs) s)

pub length-image : (g : ℕ → ℕ) (xs : List ℕ) → length (image g xs) ≡ length xs
unfolding image
length-image g [] = refl
length-image g (x ∷ xs) = ap suc (length-image g xs)

pub image-at : (g : ℕ → ℕ) (xs : List ℕ) (i : ℕ) → i < length xs → get_or (image g xs) i 0 ≡ g (get_or xs i 0)
unfolding image
image-at g [] i h = absurd (omega arith)
image-at g (x ∷ xs) zero h = refl
image-at g (x ∷ xs) (suc i) h = image-at g xs i (omega arith)

-- ---- the tests

module _ {f : ℕ → Bool} {P In : ℕ → Type 0} (xs : List ℕ) (is : (x : ℕ) → (0 < count x xs) ↔ In x) (tells : (x : ℕ) → Tells (f x) (P x)) where
  all-to : (l : List ℕ) → all f l ≡ true → (x : ℕ) → 0 < count x l → f x ≡ true
  unfolding all count
  all-to [] e x h = absurd (omega arith)
  all-to (y ∷ l) e x h =
      let p = (both {P = f y ≡ true} {Q = all f l ≡ true} ((λ q. q), λ q. q) ((λ q. q), λ q. q)).0 e in
      elim (ℕ_discrete x y) [ yes q ↦ ap f q ∙ p.0 | no n ↦ all-to l p.1 x (omega (arith, hit_other x y n)) ]

  to-all : (l : List ℕ) → ((x : ℕ) → 0 < count x l → f x ≡ true) → all f l ≡ true
  unfolding all count
  to-all [] h = refl
  to-all (y ∷ l) h = rw (h y (omega (arith, hit_same y))) (to-all l (λ x k. h x (omega arith)))

  any-to : (l : List ℕ) → any f l ≡ true → (x : ℕ) × (0 < count x l) × (f x ≡ true)
  unfolding count
  any-to [] e = absurd (false≢true e)
  any-to (y ∷ l) e = go (any-to l) (f y) refl
    where
      go : (any f l ≡ true → (x : ℕ) × (0 < count x l) × (f x ≡ true)) → (t : Bool) → f y ≡ t → (x : ℕ) × (0 < hit x y + count x l) × (f x ≡ true)
      go ih true q = (y, omega (arith, hit_same y), q)
      go ih false q =
          let (x, a, s) = ih (rw q at e) in (x, omega arith, s)

  to-any : (l : List ℕ) (x : ℕ) → 0 < count x l → f x ≡ true → any f l ≡ true
  unfolding count
  to-any [] x h e = absurd (omega arith)
  to-any (y ∷ l) x h e = go (to-any l x) (f y) refl (ℕ_discrete x y)
    where
      go : (0 < count x l → f x ≡ true → any f l ≡ true) → (t : Bool) → f y ≡ t → Dec (x ≡ y) → (f y || any f l) ≡ true
      go ih true q d = rw q
      go ih false q (yes s) = absurd (false≢true (sym q ∙ ap f (sym s) ∙ e))
      go ih false q (no n) = rw q (ih (omega (arith, hit_other x y n)) e)

  pub all? : Tells (all f xs) ((x : ℕ) → In x → P x)
  all? = ((λ e x i. (tells x).0 (all-to xs e x ((is x).1 i))), λ h. to-all xs (λ x k. (tells x).1 (h x ((is x).0 k))))

  pub any? : Tells (any f xs) ((x : ℕ) × In x × P x)
  any? = ((λ e. let (x, a, s) = any-to xs e in (x, (is x).0 a, (tells x).0 s)), λ (x, i, p). to-any xs x ((is x).1 i) ((tells x).1 p))

-- the same where the test tells only of what is in the list
pub all_in? : {f : ℕ → Bool} {P In : ℕ → Type 0} (xs : List ℕ) (is : (x : ℕ) → (0 < count x xs) ↔ In x) → ((x : ℕ) → In x → Tells (f x) (P x)) → Tells (all f xs) ((x : ℕ) → In x → P x)
all_in? {f} xs is tells = (
  (λ e x i. (tells x i).0 ((all? {P = λ y. f y ≡ true} xs is (λ y. ((λ q. q), λ q. q))).0 e x i)),
  (λ h. (all? {P = λ y. f y ≡ true} xs is (λ y. ((λ q. q), λ q. q))).1 (λ x i. (tells x i).1 (h x i))),
)

single : (l : List ℕ) → length l ≡ 1 → (x : ℕ) × (0 < count x l) × ((y : ℕ) → 0 < count y l → y ≡ x)
unfolding count
single [] e = absurd (omega arith)
single (x ∷ []) e = (x, omega (arith, hit_same x), λ y h. elim (ℕ_discrete y x) [ yes q ↦ q | no n ↦ absurd (omega (arith, hit_other y x n)) ])
single (x ∷ y ∷ l) e = absurd (omega arith)

one_single : (l : List ℕ) → ((x : ℕ) → count x l ≤ 1) → (x : ℕ) → 0 < count x l → ((y : ℕ) → 0 < count y l → y ≡ x) → length l ≡ 1
unfolding count
one_single [] o x h u = absurd (omega arith)
one_single (a ∷ []) o x h u = refl
one_single (a ∷ c ∷ l) o x h u =
    let p : a ≡ x = u a (omega (arith, hit_same a)) in
    let q : c ≡ x = u c (omega (arith, hit_same c)) in
    absurd (omega (arith, o x, hit_eq x a (sym p), hit_eq x c (sym q)))

module _ {f : ℕ → Bool} {P In : ℕ → Type 0} (xs : List ℕ) (is : (x : ℕ) → (0 < count x xs) ↔ In x) (no-twice : (x : ℕ) → count x xs ≤ 1) (tells : (x : ℕ) → Tells (f x) (P x)) where
  pub once? : Tells (once f xs) (One (λ x. In x × P x))
  unfolding once
  once? = (there, back)
    where
      out : (x : ℕ) → 0 < count x (keep f xs) → In x × P x
      out x h = let k = (keep_in f x xs).0 h in ((is x).0 k.0, (tells x).0 k.1)

      into : (x : ℕ) → In x × P x → 0 < count x (keep f xs)
      into x (i, p) = (keep_in f x xs).1 ((is x).1 i, (tells x).1 p)

      there : eqb (length (keep f xs)) 1 ≡ true → One (λ x. In x × P x)
      there e = let (x, a, u) = single (keep f xs) (eqb-true _ _ e) in (x, out x a, λ y p. u y (into y p))

      back : One (λ x. In x × P x) → eqb (length (keep f xs)) 1 ≡ true
      back (x, p, u) = eq-eqb _ _ (one_single (keep f xs) (λ z. keep-once f z xs (no-twice z)) x (into x p) (λ y h. u y (out y h)))
