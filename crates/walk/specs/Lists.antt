-- Lists of numbers by their counts: `count x l` is how often x stands in l. Membership, no repeats and rearrangement are all
-- said with it, so that `omega` does the work. Assumes nothing.
use Rattle.std.specs.Prelude.{◌≡◌, refl, Bool, true, false, ◌≢◌, ℕ, zero, suc, ◌+◌, ◌≤◌, ◌<◌, eqb, length, get_or}
use Rattle.std.proofs.Math.Path.{sym, ap}
use Rattle.std.proofs.Common.{◌∙◌, length-append, eq-eqb, ne_eqb}
use mathlib.Core.List.{List, [], ◌∷◌, ◌++◌, append_assoc}
use native.Mathlib.Omega.{arith}
use Rattle.std.proofs.Math.Decide.{ℕ_discrete, dec_lt}

pub bit : Bool → ℕ
bit true = 1
bit false = 0

unfoldable pub hit : ℕ → ℕ → ℕ
unfolding bit
hit x y = bit (eqb x y)

pub hit_same : (x : ℕ) → hit x x ≡ 1
unfolding hit bit
hit_same x = ap bit (eq-eqb x x refl)

pub hit_eq : (x y : ℕ) → x ≡ y → hit x y ≡ 1
unfolding hit bit
hit_eq x y e = ap bit (eq-eqb x y e)

pub hit_other : (x y : ℕ) → x ≢ y → hit x y ≡ 0
unfolding hit bit
hit_other x y h = ap bit (ne_eqb x y h)

unfoldable pub count : ℕ → List ℕ → ℕ
count x [] = 0
count x (y ∷ l) = hit x y + count x l

pub count_cons : (x y : ℕ) (l : List ℕ) → count x (y ∷ l) ≡ hit x y + count x l
unfolding count
count_cons x y l = refl

pub count_nil : (x : ℕ) → count x [] ≡ 0
unfolding count
count_nil x = refl

pub count_append : (x : ℕ) (l m : List ℕ) → count x (l ++ m) ≡ count x l + count x m
unfolding count
count_append x [] m = omega arith
count_append x (y ∷ l) m = omega (arith, count_append x l m)

-- a place in the list, and the count
pub count_at : (x : ℕ) (l : List ℕ) (i : ℕ) → i < length l → get_or l i 0 ≡ x → 0 < count x l
unfolding count
count_at x [] i h e = omega arith
count_at x (y ∷ l) zero h e = omega (arith, hit_eq x y (sym e))
count_at x (y ∷ l) (suc i) h e = let t : 0 < count x l = count_at x l i (omega arith) e in omega arith

pub at_count : (x : ℕ) (l : List ℕ) → 0 < count x l → (i : ℕ) × (i < length l) × (get_or l i 0 ≡ x)
unfolding count
at_count x [] h = absurd (omega arith)
at_count x (y ∷ l) h = elim (ℕ_discrete x y) [ yes e ↦ (0, omega arith, sym e) | no n ↦ further (at_count x l (omega (arith, hit_other x y n))) ]
  where
    further : (i : ℕ) × (i < length l) × (get_or l i 0 ≡ x) → (i : ℕ) × (i < length (y ∷ l)) × (get_or (y ∷ l) i 0 ≡ x)
    further (i, h, e) = (suc i, omega arith, e)

-- x once at most: one place; and back
pub same_at : (x : ℕ) (l : List ℕ) → count x l ≤ 1 → (i j : ℕ) → i < length l → j < length l → get_or l i 0 ≡ x → get_or l j 0 ≡ x → i ≡ j
unfolding count
same_at x [] h i j hi hj ei ej = omega arith
same_at x (y ∷ l) h zero zero hi hj ei ej = refl
same_at x (y ∷ l) h zero (suc j) hi hj ei ej = absurd (omega (arith, hit_eq x y (sym ei), count_at x l j (omega arith) ej))
same_at x (y ∷ l) h (suc i) zero hi hj ei ej = absurd (omega (arith, hit_eq x y (sym ej), count_at x l i (omega arith) ei))
same_at x (y ∷ l) h (suc i) (suc j) hi hj ei ej = ap suc (same_at x l (omega arith) i j (omega arith) (omega arith) ei ej)

pub at-once : (x : ℕ) (l : List ℕ) → ((i j : ℕ) → i < length l → j < length l → get_or l i 0 ≡ x → get_or l j 0 ≡ x → i ≡ j) → count x l ≤ 1
unfolding count
at-once x [] u = omega arith
at-once x (y ∷ l) u = elim (ℕ_discrete x y) [ yes e ↦ first e (at-once x l rest) | no n ↦ omega (arith, hit_other x y n, at-once x l rest) ]
  where
    rest : (i j : ℕ) → i < length l → j < length l → get_or l i 0 ≡ x → get_or l j 0 ≡ x → i ≡ j
    rest i j hi hj ei ej = let e : suc i ≡ suc j = u (suc i) (suc j) (omega arith) (omega arith) ei ej in omega arith

    first : x ≡ y → count x l ≤ 1 → hit x y + count x l ≤ 1
    first e h = elim (dec_lt 0 (count x l)) [ yes p ↦ absurd (twice (at_count x l p)) | no n ↦ omega (arith, hit_eq x y e) ]
      where
        twice : (i : ℕ) × (i < length l) × (get_or l i 0 ≡ x) → ⊥
        twice (i, hi, ei) = let q : 0 ≡ suc i = u 0 (suc i) (omega arith) (omega arith) (sym e) ei in omega arith

-- the lists of a list's elements, joined
unfoldable pub flat : (ℕ → List ℕ) → List ℕ → List ℕ
flat f [] = []
flat f (x ∷ l) = f x ++ flat f l

unfoldable pub sum_of : (ℕ → ℕ) → List ℕ → ℕ
sum_of f [] = 0
sum_of f (x ∷ l) = f x + sum_of f l

pub sum-add : (f g : ℕ → ℕ) (l : List ℕ) → sum_of (λ x. f x + g x) l ≡ sum_of f l + sum_of g l
unfolding sum_of
sum-add f g [] = omega arith
sum-add f g (x ∷ l) = omega (arith, sum-add f g l)

pub sum_ext : (f g : ℕ → ℕ) (l : List ℕ) → ((x : ℕ) → f x ≡ g x) → sum_of f l ≡ sum_of g l
unfolding sum_of
sum_ext f g [] h = refl
sum_ext f g (x ∷ l) h = omega (arith, h x, sum_ext f g l h)

pub length-flat : (f : ℕ → List ℕ) (l : List ℕ) → length (flat f l) ≡ sum_of (λ x. length (f x)) l
unfolding flat sum_of
length-flat f [] = refl
length-flat f (x ∷ l) = omega (arith, length-append (f x) (flat f l), length-flat f l)

pub flat_append : (f : ℕ → List ℕ) (l m : List ℕ) → flat f (l ++ m) ≡ flat f l ++ flat f m
unfolding flat
flat_append f [] m = refl
flat_append f (x ∷ l) m = rw (flat_append f l m) (sym (append_assoc (f x) (flat f l) (flat f m)))

pub flat-flat : (f g : ℕ → List ℕ) (l : List ℕ) → flat g (flat f l) ≡ flat (λ x. flat g (f x)) l
unfolding flat
flat-flat f g [] = refl
flat-flat f g (x ∷ l) = flat_append g (f x) (flat f l) ∙ ap (λ (t : List ℕ). flat g (f x) ++ t) (flat-flat f g l)

module _ (f : ℕ → List ℕ) (c : ℕ) where
  pub flat_in : (l : List ℕ) → 0 < count c (flat f l) → (d : ℕ) × (0 < count d l) × (0 < count c (f d))
  unfolding flat count
  flat_in [] h = absurd (omega arith)
  flat_in (x ∷ l) h = elim (dec_lt 0 (count c (f x))) [ yes p ↦ (x, omega (arith, hit_same x), p) | no n ↦ further (flat_in l (omega (arith, count_append c (f x) (flat f l)))) ]
    where
      further : (d : ℕ) × (0 < count d l) × (0 < count c (f d)) → (d : ℕ) × (0 < hit d x + count d l) × (0 < count c (f d))
      further (d, h, e) = (d, omega arith, e)

  -- what an element of the list gives is no more than the whole
  pub flat_ge : (l : List ℕ) (d : ℕ) → 0 < count d l → count c (f d) ≤ count c (flat f l)
  unfolding flat count
  flat_ge [] d h = absurd (omega arith)
  flat_ge (x ∷ l) d h = elim (ℕ_discrete d x) [ yes e ↦ rw e (omega (arith, count_append c (f x) (flat f l))) | no n ↦ omega (arith, count_append c (f x) (flat f l), flat_ge l d (omega (arith, hit_other d x n))) ]

  pub flat-two : (l : List ℕ) (d e : ℕ) → d ≢ e → 0 < count d l → 0 < count e l → count c (f d) + count c (f e) ≤ count c (flat f l)
  unfolding flat count
  flat-two [] d e n hd he = absurd (omega arith)
  flat-two (x ∷ l) d e n hd he =
      let a : count c (f x ++ flat f l) ≡ count c (f x) + count c (flat f l) = count_append c (f x) (flat f l) in
      elim (ℕ_discrete d x) [
        | yes p ↦ omega (arith, ap (λ (k : ℕ). count c (f k)) p, flat_ge l e (omega (arith, hit_other e x (λ q. n (p ∙ sym q)))))
        | no m ↦ elim (ℕ_discrete e x) [
          | yes q ↦ omega (arith, ap (λ (k : ℕ). count c (f k)) q, flat_ge l d (omega (arith, hit_other d x m)))
          | no o ↦ omega (arith, flat-two l d e n (omega (arith, hit_other d x m)) (omega (arith, hit_other e x o)))
        ]
      ]

  pub flat-many : (l : List ℕ) (d : ℕ) → 0 < count c (f d) → count d l ≤ count c (flat f l)
  unfolding flat count
  flat-many [] d h = omega arith
  flat-many (x ∷ l) d h =
      let a : count c (f x ++ flat f l) ≡ count c (f x) + count c (flat f l) = count_append c (f x) (flat f l) in
      let b : count d l ≤ count c (flat f l) = flat-many l d h in
      elim (ℕ_discrete d x) [ yes p ↦ omega (arith, ap (λ (k : ℕ). count c (f k)) p, hit_eq d x p) | no m ↦ omega (arith, hit_other d x m) ]

  -- each element once, each of its lists with no repeat, and no two that share: no repeat in the whole
  pub flat-once : (l : List ℕ) → ((d : ℕ) → count d l ≤ 1) → ((d : ℕ) → 0 < count d l → count c (f d) ≤ 1) → ((d e : ℕ) → 0 < count d l → 0 < count e l → 0 < count c (f d) → 0 < count c (f e) → d ≡ e) → count c (flat f l) ≤ 1
  unfolding flat count
  flat-once [] one each two = omega arith
  flat-once (x ∷ l) one each two =
      let a : count c (f x ++ flat f l) ≡ count c (f x) + count c (flat f l) = count_append c (f x) (flat f l) in
      let b : count c (flat f l) ≤ 1 = flat-once l (λ d. omega (arith, one d)) (λ d h. each d (omega arith)) (λ d e h k. two d e (omega arith) (omega arith)) in
      let t : 0 < count x (x ∷ l) = omega (arith, hit_same x) in
      elim (dec_lt 0 (count c (flat f l))) [ yes p ↦ shared a b t (flat_in l p) | no n ↦ omega (arith, each x t) ]
    where
      shared : count c (f x ++ flat f l) ≡ count c (f x) + count c (flat f l) → count c (flat f l) ≤ 1 → 0 < count x (x ∷ l) → (d : ℕ) × (0 < count d l) × (0 < count c (f d)) → count c (f x ++ flat f l) ≤ 1
      shared a b t (d, hd, hc) = elim (dec_lt 0 (count c (f x))) [
        | yes p ↦ absurd (let e : x ≡ d = two x d t (omega arith) p hc in omega (arith, one d, hit_eq d x (sym e)))
        | no n ↦ omega arith
      ]

pub count-flat : (f : ℕ → List ℕ) (c : ℕ) (l : List ℕ) → count c (flat f l) ≡ sum_of (λ d. count c (f d)) l
unfolding flat count sum_of
count-flat f c [] = refl
count-flat f c (x ∷ l) = omega (arith, count_append c (f x) (flat f l), count-flat f c l)

-- one element taken out
pub taken : (f : ℕ → ℕ) (x : ℕ) (l : List ℕ) → 0 < count x l → (m : List ℕ) × ((d : ℕ) → count d l ≡ hit d x + count d m) × (sum_of f l ≡ f x + sum_of f m)
unfolding count sum_of
taken f x [] h = absurd (omega arith)
taken f x (y ∷ l) h = elim (ℕ_discrete x y) [
  | yes e ↦ (l, (λ d. omega (arith, ap (hit d) e)), omega (arith, ap f e))
  | no n ↦ further (taken f x l (omega (arith, hit_other x y n)))
]
  where
    further : (m : List ℕ) × ((d : ℕ) → count d l ≡ hit d x + count d m) × (sum_of f l ≡ f x + sum_of f m) → (m : List ℕ) × ((d : ℕ) → hit d y + count d l ≡ hit d x + count d m) × (f y + sum_of f l ≡ f x + sum_of f m)
    further (m, a, b) = (y ∷ m, (λ d. omega (arith, a d)), omega arith)

-- two lists with the same counts have the same sums
pub same_sum : (f : ℕ → ℕ) (l m : List ℕ) → ((d : ℕ) → count d l ≡ count d m) → sum_of f l ≡ sum_of f m
unfolding count sum_of
same_sum f [] [] h = refl
same_sum f [] (y ∷ m) h = absurd (omega (arith, h y, hit_same y))
same_sum f (x ∷ l) m h =
    let (k, a, b) = taken f x m (omega (arith, h x, hit_same x)) in
    omega (arith, same_sum f l k (λ d. omega (arith, h d, a d)))

-- the pages below n, counted one by one
below : ℕ → List ℕ → ℕ
below zero l = 0
below (suc n) l = below n l + count n l

below_nil : (n : ℕ) → below n [] ≡ 0
unfolding below count
below_nil zero = refl
below_nil (suc n) = omega (arith, below_nil n)

hits : ℕ → ℕ → ℕ
hits zero x = 0
hits (suc n) x = hits n x + hit n x

hits-none : (n x : ℕ) → n ≤ x → hits n x ≡ 0
unfolding hits
hits-none zero x h = refl
hits-none (suc n) x h = omega (arith, hits-none n x (omega arith), hit_other n x (omega arith))

hits-one : (n x : ℕ) → x < n → hits n x ≡ 1
unfolding hits
hits-one zero x h = absurd (omega arith)
hits-one (suc n) x h = elim (ℕ_discrete n x) [ yes e ↦ omega (arith, hits-none n x (omega arith), hit_eq n x e) | no m ↦ omega (arith, hits-one n x (omega arith), hit_other n x m) ]

below_cons : (n x : ℕ) (l : List ℕ) → below n (x ∷ l) ≡ hits n x + below n l
unfolding below hits count
below_cons zero x l = omega arith
below_cons (suc n) x l = omega (arith, below_cons n x l)

below_all : (n : ℕ) (l : List ℕ) → ((x : ℕ) → 0 < count x l → x < n) → below n l ≡ length l
unfolding count
below_all n [] h = below_nil n
below_all n (x ∷ l) h = omega (arith, below_cons n x l, hits-one n x (h x (omega (arith, hit_same x))), below_all n l (λ y k. h y (omega arith)))

below-ones : (n : ℕ) (l : List ℕ) → count 0 l ≡ 0 → ((p : ℕ) → 0 < p → p < suc n → count p l ≡ 1) → below (suc n) l ≡ n
unfolding below
below-ones zero l z h = omega arith
below-ones (suc n) l z h = omega (arith, below-ones n l z (λ p a b. h p a (omega arith)), h (suc n) (omega arith) (omega arith))

-- the pigeonhole: each of 1 .. n - 1 once and nothing else
pub exactly : (n : ℕ) (l : List ℕ) → 0 < n → ((p : ℕ) → 0 < p → p < n → count p l ≡ 1) → ((p : ℕ) → 0 < count p l → (0 < p) × (p < n)) → suc (length l) ≡ n
exactly zero l z h k = absurd (omega arith)
exactly (suc n) l z h k =
    let no_zero : count 0 l ≡ 0 = elim (dec_lt 0 (count 0 l)) [ yes p ↦ absurd (omega (arith, k 0 p)) | no m ↦ omega arith ] in
    omega (arith, below-ones n l no_zero h, below_all (suc n) l (λ x p. (k x p).1))
