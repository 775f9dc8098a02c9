-- What a loop over numbers goes by: what is left, from i on, with what was found so far comes to the whole. Assumes nothing.
use mathlib.Core.Path.{◌≡◌, refl, sym, ap, ◌∙◌}
use mathlib.Core.List.{List, [], ◌∷◌}
use mathlib.Core.Bool.{Bool, true, false, cond, not, ◌&&◌, ◌||◌}
use Prim.Native.Nat.{ℕ, zero, suc, ◌+◌, ◌-◌, ◌≤◌, ◌<◌}
use native.Mathlib.Omega.{arith}
use lib.Dec.{leb}
use Rattle.std.specs.Fn.{Called}
use Rattle.std.specs.Iterator.{YieldsThen}
use Rattle.std.specs.List.{FoldsTo, list_all, range_with_len}
use Rattle.std.specs.Option.{MatchOption}
use Rattle.std.specs.declared.ops.Range.{Range}
use Rattle.std.proofs.Common.{Option}
use Rattle.std.proofs.iter.Yields.{nat_range_steps}
use Rattle.std.proofs.lemmas.Iterator.{YieldsList-from_range}
use Rattle.std.proofs.lemmas.Iterator.Search.{all_from_yields_List}
use denote.Param.Members.{Mut}
use lib.ListN.{length, get_or, take, drop}
use Rattle.std.proofs.Common.{drop-cons}
use borrow.Author.Tests.{le-leb, lt-leb}
use Rattle.walk.specs.Finite.{from, from_in, in_from, all, all?, keep}
use Rattle.own_pages.proofs.Laws.Tests.{and_assoc, and_swap}

from_next : (n i : ℕ) → i < n → from (n - i) i ≡ i ∷ from (n - (i + 1)) (i + 1)
unfolding from
from_next n i h =
    let e : n - i ≡ suc (n - (i + 1)) = omega arith in
    let q : suc i ≡ i + 1 = omega arith in
    ap (λ (k : ℕ). from k i) e ∙ ap (λ (j : ℕ). i ∷ from (n - (i + 1)) j) q

from_end : (n i : ℕ) → n ≤ i → from (n - i) i ≡ []
unfolding from
from_end n i h = let e : n - i ≡ 0 = omega arith in ap (λ (k : ℕ). from k i) e

pub from_start : (n : ℕ) → from n 0 ≡ from (n - 0) 0
from_start n = let e : n ≡ n - 0 = omega arith in ap (λ (k : ℕ). from k 0) e

pub all-go-on : (f : ℕ → Bool) (n i : ℕ) → i < n → all f (from (n - i) i) ≡ f i && all f (from (n - (i + 1)) (i + 1))
unfolding all
all-go-on f n i h = ap (all f) (from_next n i h)

-- f at each: o is what the whole comes to
module _ {o : Bool} (f : ℕ → Bool) (n i : ℕ) where
  pub all_end : n ≤ i → o ≡ all f (from (n - i) i) → true ≡ o
  unfolding all
  all_end h v = sym (v ∙ ap (all f) (from_end n i h))

-- ---- the whole at once

-- the first items of a list, by their places
pub all_items : (f : ℕ → Bool) (xs : List ℕ) (n i : ℕ) → i + n ≤ length xs → list_all f (take n (drop i xs)) ≡ all (λ j. f (get_or xs j 0)) (from n i)
unfolding all from
all_items f xs zero i h = refl
all_items f xs (suc n) i h =
    let l : i < length xs = omega arith in
    rw (drop-cons xs i 0) (ap (λ (t : Bool). f (get_or xs i 0) && t) (all_items f xs n (suc i) (omega arith)))

-- the numbers from i on, as a range yields them
all_ranged : (f : ℕ → Bool) (n i : ℕ) → list_all f (range_with_len i n) ≡ all f (from n i)
unfolding all from
all_ranged f zero i = refl
all_ranged f (suc n) i = let e : i + 1 ≡ suc i = omega arith in ap (λ (t : Bool). f i && t) (ap (λ (x : ℕ). list_all f (range_with_len x n)) e ∙ all_ranged f n (suc i))

-- what `all` over the numbers below n answers, where its closure tests f
pub all_over : {F : Type 0} {g : Mut F (ℕ × Unit {0}) Bool} {s u : Range ℕ} {j : F} {r : Bool} (f : ℕ → Bool) (n : ℕ)
    → (xs : List ℕ) × (o : Option ℕ) × (k : F) × YieldsThen nat_range_steps s xs o u × FoldsTo (λ p x q. Called g p (x, tt) true q) j xs k × MatchOption o (r ≡ true) (λ x. (r ≡ false) × ((h : F) × Called g k (x, tt) false h))
    → s ≡ record { start = 0; end = n } → ((x : ℕ) (b : Bool) (q : F) → Called g j (x, tt) b q → (q ≡ j) × (b ≡ f x)) → r ≡ all f (from n 0)
all_over {u = u} {j} {r} f n ran e told = all_from_yields_List f u j r ran (YieldsList-from_range 0 n n e (omega arith)) told ∙ all_ranged f n 0

module _ (f : ℕ → Bool) (n i : ℕ) where
  pub all-at : all f (from n i) ≡ true → (x : ℕ) → i ≤ x → x < i + n → f x ≡ true
  all-at e x a l = (all? {P = λ y. f y ≡ true} {In = λ y. (i ≤ y) × (y < i + n)} (from n i) (λ y. (from_in n i y, λ (p, q). in_from n i y p q)) (λ y. ((λ q. q), λ q. q))).0 e x (a, l)

  pub all_yes : ((x : ℕ) → i ≤ x → x < i + n → f x ≡ true) → all f (from n i) ≡ true
  all_yes h = (all? {P = λ y. f y ≡ true} {In = λ y. (i ≤ y) × (y < i + n)} (from n i) (λ y. (from_in n i y, λ (p, q). in_from n i y p q)) (λ y. ((λ q. q), λ q. q))).1 (λ x (a, l). h x a l)

pub all_same : (f g : ℕ → Bool) (n i : ℕ) → ((x : ℕ) → i ≤ x → x < i + n → f x ≡ g x) → all f (from n i) ≡ all g (from n i)
unfolding all from
all_same f g zero i h = refl
all_same f g (suc n) i h = rw (h i (omega arith) (omega arith), all_same f g n (suc i) (λ x a l. h x (omega arith) (omega arith))) refl

pub all_join : (f g : ℕ → Bool) (xs : List ℕ) → all (λ x. f x && g x) xs ≡ all f xs && all g xs
unfolding all
all_join f g [] = refl
all_join f g (x ∷ xs) = ap (λ (t : Bool). f x && g x && t) (all_join f g xs) ∙ and_swap (f x) (g x) (all f xs) (all g xs)

-- the first k, and the rest
all-part : (f : ℕ → Bool) (k n i : ℕ) → all f (from (k + n) i) ≡ all f (from k i) && all f (from n (i + k))
unfolding all from
all-part f zero n i =
    let e : zero + n ≡ n = omega arith in
    let q : i + zero ≡ i = omega arith in
    ap (λ (x : ℕ). all f (from x i)) e ∙ ap (λ (x : ℕ). all f (from n x)) (sym q)
all-part f (suc k) n i =
    let e : suc k + n ≡ suc (k + n) = omega arith in
    let q : suc i + k ≡ i + suc k = omega arith in
    ap (λ (x : ℕ). all f (from x i)) e
    ∙ ap (λ (t : Bool). f i && t) (all-part f k n (suc i) ∙ ap (λ (x : ℕ). all f (from k (suc i)) && all f (from n x)) q)
    ∙ and_assoc (f i) (all f (from k (suc i))) (all f (from n (i + suc k)))

-- f is g from k on: the first k, and what g says of the rest
all_rest : (f g : ℕ → Bool) (k n : ℕ) → k ≤ n → ((i : ℕ) → k ≤ i → i < n → f i ≡ g i) → all f (from n 0) ≡ all f (from k 0) && all (λ i. not (leb k i) || g i) (from n 0)
all_rest f g k n h same =
    let e : n ≡ k + (n - k) = omega arith in
    let start : all rest (from k 0) ≡ true = all_yes rest k 0 (λ i a l. rw (lt-leb k i (omega arith)) refl) in
    let end : all f (from (n - k) (0 + k)) ≡ all rest (from (n - k) (0 + k)) = all_same f rest (n - k) (0 + k) (λ i a l. rw (le-leb k i (omega arith)) (same i (omega arith) (omega arith))) in
    ap (λ (x : ℕ). all f (from x 0)) e ∙ all-part f k (n - k) 0
    ∙ ap (λ (t : Bool). all f (from k 0) && t) (end ∙ sym (ap (λ (x : ℕ). all rest (from x 0)) e ∙ all-part rest k (n - k) 0 ∙ rw start refl))
  where
    rest : ℕ → Bool
    rest i = not (leb k i) || g i

module _ (f g : ℕ → Bool) (k n : ℕ) (h : k ≤ n) (same : (i : ℕ) → k ≤ i → i < n → f i ≡ g i) where
  -- r is what the first k come to, s what the rest does
  pub rest-stop : {r : Bool} → r ≡ all f (from k 0) → r ≡ false → r ≡ all f (from n 0)
  rest-stop e t = t ∙ sym (all_rest f g k n h same ∙ rw (← e, t) refl)

  pub rest_end : {r s : Bool} → r ≡ all f (from k 0) → r ≡ true → s ≡ all (λ i. not (leb k i) || g i) (from n 0) → s ≡ all f (from n 0)
  rest_end e t q = q ∙ sym (all_rest f g k n h same ∙ rw (← e, t) refl)

-- ---- how often f holds from i on

module _ (f : ℕ → Bool) (n i : ℕ) where
  keep-more : (t : Bool) (l : List ℕ) → length (cond t (i ∷ l) l) ≡ cond t 1 0 + length l
  keep-more true l = omega arith
  keep-more false l = omega arith

  pub found-next : i < n → length (keep f (from (n - i) i)) ≡ cond (f i) 1 0 + length (keep f (from (n - (i + 1)) (i + 1)))
  unfolding keep
  found-next h = ap (λ (l : List ℕ). length (keep f l)) (from_next n i h) ∙ keep-more (f i) (keep f (from (n - (i + 1)) (i + 1)))

  pub found-end : n ≤ i → length (keep f (from (n - i) i)) ≡ 0
  unfolding keep
  found-end h = ap (λ (l : List ℕ). length (keep f l)) (from_end n i h)
