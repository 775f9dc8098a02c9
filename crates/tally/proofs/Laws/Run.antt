-- A loop over numbers goes by the run over what is left: s is its state, i where it stands, k where it ends. Assumes nothing.
use mathlib.Core.Path.{◌≡◌, refl, sym, ap, ◌∙◌}
use mathlib.Core.List.{List, [], ◌∷◌, ◌++◌}
use mathlib.Core.Bool.{Bool, true, false, cond, not, ◌&&◌}
use mathlib.Core.Option.{Option, none, some}
use Prim.Native.Nat.{ℕ, zero, suc, ◌+◌, ◌-◌, ◌≤◌, ◌<◌}
use native.Mathlib.Omega.{arith}
use native.Mathlib.Decide.{dec_lt}
use lib.ListN.{length}
use borrow.Author.Tests.{not-true, not-false}
use Rattle.std.specs.Int.{from_bool}
use Rattle.walk.specs.Lists.{flat, sum_of}
use Rattle.walk.specs.Finite.{from, all, keep, image}
use Rattle.walk.specs.Marks.{Seen, and_then, each}
use Rattle.tally.specs.Run.{run, adding, asking, marking, bit}

-- a test as a number: what `u32::from` makes of it
pub bit_is : {r : ℕ} {x f : Bool} → r ≡ from_bool x → x ≡ f → r ≡ bit f
bit_is {f = true} e q = e ∙ ap from_bool q
bit_is {f = false} e q = e ∙ ap from_bool q

pub from-most : (x : Bool) → from_bool x ≤ 1
from-most true = omega arith
from-most false = omega arith

pub bit-most : (f : Bool) → bit f ≤ 1
bit-most true = omega arith
bit-most false = omega arith

from_next : (k i : ℕ) → i < k → from (k - i) i ≡ i ∷ from (k - (i + 1)) (i + 1)
unfolding from
from_next k i h =
    let e : k - i ≡ suc (k - (i + 1)) = omega arith in
    let q : suc i ≡ i + 1 = omega arith in
    ap (λ (n : ℕ). from n i) e ∙ ap (λ (j : ℕ). i ∷ from (k - (i + 1)) j) q

from_end : (k i : ℕ) → k ≤ i → from (k - i) i ≡ []
unfolding from
from_end k i h = let e : k - i ≡ 0 = omega arith in ap (λ (n : ℕ). from n i) e

module _ {S : Type 0} (f : S → ℕ → S) where
  run_append : (xs ys : List ℕ) (s : S) → run f s (xs ++ ys) ≡ run f (run f s xs) ys
  unfolding run
  run_append [] ys s = refl
  run_append (x ∷ xs) ys s = run_append xs ys (f s x)

  pub run-flat : (g : ℕ → List ℕ) (xs : List ℕ) (s : S) → run f s (flat g xs) ≡ run (λ t x. run f t (g x)) s xs
  unfolding run flat
  run-flat g [] s = refl
  run-flat g (x ∷ xs) s = run_append (g x) (flat g xs) s ∙ run-flat g xs (run f s (g x))

  pub run-image : (h : ℕ → ℕ) (xs : List ℕ) (s : S) → run f s (image h xs) ≡ run (λ t x. f t (h x)) s xs
  unfolding run image
  run-image h [] s = refl
  run-image h (x ∷ xs) s = run-image h xs (f s (h x))

  -- over those that p does not pick
  pub run-keep : (p : ℕ → Bool) (xs : List ℕ) (s : S) → run f s (keep (λ x. not (p x)) xs) ≡ run (λ t x. cond (p x) t (f t x)) s xs
  unfolding run keep
  run-keep p [] s = refl
  run-keep p (x ∷ xs) s = go (p x) (run-keep p xs)
    where
      go : (t : Bool) → ((u : S) → run f u (keep (λ y. not (p y)) xs) ≡ run (λ u y. cond (p y) u (f u y)) u xs)
          → run f s (cond (not t) (x ∷ keep (λ y. not (p y)) xs) (keep (λ y. not (p y)) xs)) ≡ run (λ u y. cond (p y) u (f u y)) (cond t s (f s x)) xs
      go true e = e s
      go false e = e (f s x)

  -- a state that no step changes
  pub run_stuck : (s : S) → ((x : ℕ) → f s x ≡ s) → (xs : List ℕ) → run f s xs ≡ s
  unfolding run
  run_stuck s h [] = refl
  run_stuck s h (x ∷ xs) = ap (λ (t : S). run f t xs) (h x) ∙ run_stuck s h xs

  run-same-from : (g : S → ℕ → S) (n i : ℕ) → ((x : ℕ) → x < i + n → (s : S) → f s x ≡ g s x) → (s : S) → run f s (from n i) ≡ run g s (from n i)
  unfolding run from
  run-same-from g zero i h s = refl
  run-same-from g (suc n) i h s = ap (λ (t : S). run f t (from n (suc i))) (h i (omega arith) s) ∙ run-same-from g n (suc i) (λ x l. h x (omega arith)) (g s i)

  -- another step that is the same below k
  pub run-same : (g : S → ℕ → S) (k : ℕ) → ((x : ℕ) → x < k → (s : S) → f s x ≡ g s x) → (s : S) → run f s (from k 0) ≡ run g s (from k 0)
  run-same g k h s = run-same-from g k 0 (λ x l. h x (omega arith)) s

  pub run-next : (k i : ℕ) → i < k → (s : S) → run f s (from (k - i) i) ≡ run f (f s i) (from (k - (i + 1)) (i + 1))
  unfolding run
  run-next k i h s = ap (run f s) (from_next k i h)

  run_past : (n k i : ℕ) (s : S) → ((x : ℕ) → i ≤ x → x < i + n → f s x ≡ s) → run f s (from (k - i) i) ≡ run f s (from (k - (i + n)) (i + n))
  run_past zero k i s h = let e : i ≡ i + zero = omega arith in ap (λ (j : ℕ). run f s (from (k - j) j)) e
  run_past (suc n) k i s h = elim (dec_lt i k) [
    | yes l ↦ let e : i + 1 + n ≡ i + suc n = omega arith in
        run-next k i l s
        ∙ ap (λ (t : S). run f t (from (k - (i + 1)) (i + 1))) (h i (omega arith) (omega arith))
        ∙ run_past n k (i + 1) s (λ x a c. h x (omega arith) (omega arith))
        ∙ ap (λ (j : ℕ). run f s (from (k - j) j)) e
    | no l ↦ ap (run f s) (from_end k i (omega arith) ∙ sym (from_end k (i + suc n) (omega arith)))
  ]

  -- on past numbers at which the step leaves the state
  pub run-skip : (k i r : ℕ) (s : S) → i ≤ r → ((x : ℕ) → i ≤ x → x < r → f s x ≡ s) → run f s (from (k - i) i) ≡ run f s (from (k - r) r)
  run-skip k i r s l h =
      let e : i + (r - i) ≡ r = omega arith in
      run_past (r - i) k i s (λ x a c. h x a (omega arith)) ∙ ap (λ (j : ℕ). run f s (from (k - j) j)) e

  pub run-start : (k : ℕ) (s : S) → run f s (from k 0) ≡ run f s (from (k - 0) 0)
  run-start k s = let e : k ≡ k - 0 = omega arith in ap (λ (n : ℕ). run f s (from n 0)) e

  pub run_end : (k i : ℕ) (s : S) → k ≤ i → run f s (from (k - i) i) ≡ s
  unfolding run
  run_end k i s h = ap (run f s) (from_end k i h)

-- ---- what is counted, asked and marked over a list, as runs

pub sum-run : (g : ℕ → ℕ) (xs : List ℕ) (c : ℕ) → run (adding g) c xs ≡ c + sum_of g xs
unfolding run sum_of
sum-run g [] c = omega arith
sum-run g (x ∷ xs) c = omega (arith, sum-run g xs (c + g x))

-- a sum that starts elsewhere
pub sum-on : (g : ℕ → ℕ) (xs : List ℕ) (c : ℕ) → run (adding g) c xs ≡ c + run (adding g) 0 xs
sum-on g xs c = omega (arith, sum-run g xs c, sum-run g xs 0)

keep-sum : (p : ℕ → Bool) (xs : List ℕ) → length (keep p xs) ≡ sum_of (λ x. bit (p x)) xs
unfolding keep sum_of
keep-sum p [] = refl
keep-sum p (x ∷ xs) = more (p x) (keep-sum p xs)
  where
    more : (t : Bool) → length (keep p xs) ≡ sum_of (λ y. bit (p y)) xs → length (cond t (x ∷ keep p xs) (keep p xs)) ≡ bit t + sum_of (λ y. bit (p y)) xs
    more true e = omega arith
    more false e = omega arith

pub length_run : (p : ℕ → Bool) (xs : List ℕ) → length (keep p xs) ≡ run (adding (λ x. bit (p x))) 0 xs
length_run p xs = omega (arith, keep-sum p xs, sum-run (λ x. bit (p x)) xs 0)

image-sum : (k h : ℕ → ℕ) (p : ℕ → Bool) (xs : List ℕ) → sum_of k (image h (keep p xs)) ≡ sum_of (λ x. cond (p x) (k (h x)) 0) xs
unfolding keep image sum_of
image-sum k h p [] = refl
image-sum k h p (x ∷ xs) = more (p x) (image-sum k h p xs)
  where
    more : (t : Bool) → sum_of k (image h (keep p xs)) ≡ sum_of (λ y. cond (p y) (k (h y)) 0) xs
        → sum_of k (image h (cond t (x ∷ keep p xs) (keep p xs))) ≡ cond t (k (h x)) 0 + sum_of (λ y. cond (p y) (k (h y)) 0) xs
    more true e = ap (λ (n : ℕ). k (h x) + n) e
    more false e = e ∙ omega arith

pub sums_run : (k h : ℕ → ℕ) (p : ℕ → Bool) (xs : List ℕ) → sum_of k (image h (keep p xs)) ≡ run (adding (λ x. cond (p x) (k (h x)) 0)) 0 xs
sums_run k h p xs = omega (arith, image-sum k h p xs, sum-run (λ x. cond (p x) (k (h x)) 0) xs 0)

pub all-run : (p : ℕ → Bool) (xs : List ℕ) → all p xs ≡ run (asking p) true xs
unfolding run all
all-run p [] = refl
all-run p (x ∷ xs) = go (p x) (all-run p xs)
  where
    go : (t : Bool) → all p xs ≡ run (asking p) true xs → t && all p xs ≡ run (asking p) t xs
    go true e = e
    go false e = sym (run_stuck (asking p) false (λ y. refl) xs)

-- no mark is made once one was refused
pub marking-none : (p : ℕ → Bool) (f : Seen → ℕ → Option Seen) (xs : List ℕ) → run (marking p f) none xs ≡ none
unfolding and_then
marking-none p f xs = run_stuck (marking p f) none (λ y. stay (p y)) xs
  where
    stay : (t : Bool) → ◌≡◌ {A = Option Seen} (cond t none none) none
    stay true = refl
    stay false = refl

pub each-run : (f : Seen → ℕ → Option Seen) (g : ℕ → ℕ) (p : ℕ → Bool) (xs : List ℕ) (s : Seen) → each f s (image g (keep p xs)) ≡ run (marking p (λ t x. f t (g x))) (some s) xs
unfolding run keep each image and_then
each-run f g p [] s = refl
each-run f g p (x ∷ xs) s = go (p x) (each-run f g p xs)
  where
    after : ((t : Seen) → each f t (image g (keep p xs)) ≡ run (marking p (λ u y. f u (g y))) (some t) xs)
        → (o : Option Seen) → and_then o (λ t. each f t (image g (keep p xs))) ≡ run (marking p (λ t y. f t (g y))) o xs
    after ih none = sym (marking-none p (λ t y. f t (g y)) xs)
    after ih (some t) = ih t

    go : (t : Bool) → ((u : Seen) → each f u (image g (keep p xs)) ≡ run (marking p (λ v y. f v (g y))) (some u) xs)
        → each f s (image g (cond t (x ∷ keep p xs) (keep p xs))) ≡ run (marking p (λ u y. f u (g y))) (cond t (and_then (some s) (λ u. f u (g x))) (some s)) xs
    go true ih = after ih (f s (g x))
    go false ih = ih s

-- a test at each that counts those that pass, c of the first i of k; o is what the test of all comes to
abbrev pub Counted : Bool → (ℕ → Bool) → ℕ → ℕ → ℕ → Type 0
Counted o p k i c = (c ≤ i) × (c ≡ i → o ≡ run (asking p) true (from (k - i) i)) × (c < i → false ≡ o)

pub counted_next : {o : Bool} (p : ℕ → Bool) (k i : ℕ) {c r : ℕ} → i < k → r ≡ bit (p i) → Counted o p k i c → Counted o p k (i + 1) (c + r)
counted_next {o} p k i {c} {r} h q (a, e, f) = go (p i) (run-next (asking p) k i h true) q
  where
    go : (t : Bool) → run (asking p) true (from (k - i) i) ≡ run (asking p) t (from (k - (i + 1)) (i + 1)) → r ≡ bit t → Counted o p k (i + 1) (c + r)
    go true s z = (omega arith, (λ y. e (omega arith) ∙ s), λ y. f (omega arith))
    go false s z = (
      omega arith,
      (λ y. absurd (omega arith)),
      (λ y. elim (dec_lt c i) [ yes l ↦ f l | no l ↦ sym (e (omega arith) ∙ s ∙ run_stuck (asking p) false (λ x. refl) (from (k - (i + 1)) (i + 1))) ]),
    )

-- all of the first e passed
pub counted-end : {o : Bool} (p : ℕ → Bool) (k : ℕ) {i e c : ℕ} → i ≡ e → c ≡ i → Counted o p k i c → o ≡ run (asking p) true (from (k - e) e)
counted-end p k q z (a, f, g) = f z ∙ ap (λ (j : ℕ). run (asking p) true (from (k - j) j)) q

-- a test at each: x is what the code was told at i, o what the whole comes to
module _ {o : Bool} (p : ℕ → Bool) (k i : ℕ) where
  pub ask_next : {x : Bool} → i < k → x ≡ p i → not x ≡ false → o ≡ run (asking p) true (from (k - i) i) → o ≡ run (asking p) true (from (k - (i + 1)) (i + 1))
  ask_next {x} h e t v = v ∙ run-next (asking p) k i h true ∙ ap (λ (u : Bool). run (asking p) u (from (k - (i + 1)) (i + 1))) (sym e ∙ not-false x t)

  pub ask_stop : {x : Bool} → i < k → x ≡ p i → not x ≡ true → o ≡ run (asking p) true (from (k - i) i) → false ≡ o
  ask_stop {x} h e t v =
      sym (v ∙ run-next (asking p) k i h true ∙ ap (λ (u : Bool). run (asking p) u (from (k - (i + 1)) (i + 1))) (sym e ∙ not-true x t)
      ∙ run_stuck (asking p) false (λ y. refl) (from (k - (i + 1)) (i + 1)))
