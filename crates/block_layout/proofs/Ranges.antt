-- What `all` and `find` over a range answer, in the words of the searches: a test of each number, and the lowest that passes. Assumes nothing.
use Rattle.std.proofs.Common.{◌≡◌, ℕ, zero, suc, ◌+◌, ◌-◌, ◌≤◌, Bool, true, false, cond, ◌&&◌, Option, None, Some, refl, ap, ◌∙◌, arith, add-one}
use Rattle.std.specs.List.{list_all, find, range_with_len}
use Rattle.std.specs.Option.{option_map, unwrap_or}
use Rattle.walk.specs.Finite.{from, all}
use Rattle.block_memory.specs.Partition.{lowest}

all-listed : (f : ℕ → Bool) (n a : ℕ) → list_all f (range_with_len a n) ≡ all f (from n a)
unfolding all from
all-listed f zero a = refl
all-listed f (suc n) a = ap (λ (t : Bool). f a && t) (ap (λ (i : ℕ). list_all f (range_with_len i n)) (add-one a) ∙ all-listed f n (suc a))

-- each number from a on, n in all, was tested
pub all_tested : (f : ℕ → Bool) (n a : ℕ) {r : Bool} → r ≡ list_all f (range_with_len a n) → r ≡ all f (from n a)
all_tested f n a e = e ∙ all-listed f n a

-- the lowest from a on, of n in all, was looked for, and 0 stands for none
lowest-listed : (f : ℕ → Bool) (n a : ℕ) → unwrap_or (find f (range_with_len a n)) 0 ≡ lowest f (from n a)
unfolding lowest from
lowest-listed f zero a = refl
lowest-listed f (suc n) a = by (f a) (ap (λ (i : ℕ). unwrap_or (find f (range_with_len i n)) 0) (add-one a) ∙ lowest-listed f n (suc a))
  where
    by : (t : Bool) → unwrap_or (find f (range_with_len (a + 1) n)) 0 ≡ lowest f (from n (suc a))
        → unwrap_or (cond t (Some a) (find f (range_with_len (a + 1) n))) 0 ≡ cond t a (lowest f (from n (suc a)))
    by true e = refl
    by false e = e

pub lowest_found : (f : ℕ → Bool) (n a : ℕ) (r : Option ℕ) → option_map (λ x. x) r ≡ find f (range_with_len a n) → unwrap_or r 0 ≡ lowest f (from n a)
lowest_found f n a r e = same r ∙ ap (λ (o : Option ℕ). unwrap_or o 0) e ∙ lowest-listed f n a
  where
    same : (o : Option ℕ) → unwrap_or o 0 ≡ unwrap_or (option_map (λ x. x) o) 0
    same None = refl
    same (Some x) = refl

pub lowest_below : (f : ℕ → Bool) (n a : ℕ) → lowest f (from n a) ≤ a + n - 1
unfolding lowest from
lowest_below f zero a = omega arith
lowest_below f (suc n) a = by (f a) (lowest_below f n (suc a))
  where
    by : (t : Bool) → lowest f (from n (suc a)) ≤ suc a + n - 1 → cond t a (lowest f (from n (suc a))) ≤ a + suc n - 1
    by true h = omega arith
    by false h = omega arith
