-- What the code asks at one index or of one pair, put together from the tests of the crate soundness. Assumes nothing.
use Rattle.std.specs.Prelude.{◌≡◌, List, Bool, true, false, cond, not, ◌&&◌, ◌||◌, ℕ, ◌+◌, ◌-◌, ◌*◌, ◌≤◌, ◌<◌, eqb, length, get_or}
use Rattle.walk.specs.Finite.{from, all, keep, once}
use Rattle.memory.specs.Geometry.{page_words}
use Rattle.memory.specs.Words.{word}
use Rattle.memory.specs.Partition.{directory, shadow1, shadow2, list, threes}
use Rattle.soundness.specs.Test.{virtual, physical, table_link, directory_test, stands, agrees, shut_at}

module _ (b : ℕ) (m : List ℕ) where
  -- w, x and y are the words of an index of a directory and its shadows
  unfoldable pub links : ℕ → ℕ → ℕ → Bool
  links w x y =
      table_link b m w && table_link b m x && table_link b m y
      && cond (eqb w 0) (eqb x 0 && eqb y 0) (not (eqb x 0) && not (eqb y 0))

  -- three j of d's list stands where the words are w, x and y
  unfoldable pub listed_as : ℕ → ℕ → ℕ → ℕ → ℕ → Bool
  listed_as d w x y j =
      eqb w (word b m (list b m d) (2 + 6 * j) + 1) && eqb x (word b m (list b m d) (4 + 6 * j) + 1) && eqb y (word b m (list b m d) (6 + 6 * j) + 1)

  -- index i of d has no tables; it has the forms, and has no tables or is listed once
  unfoldable pub no_tables : ℕ → ℕ → Bool
  no_tables d i = eqb (word b m (directory b m d) i) 0 && eqb (word b m (shadow1 b m d) i) 0 && eqb (word b m (shadow2 b m d) i) 0

  unfoldable pub index_test : ℕ → ℕ → Bool
  index_test d i =
      directory_test b m d i && (eqb (word b m (directory b m d) i) 0 || once (λ j. stands b m d j i) (from (threes b m d) 0))

  -- what is left to ask from index i on: each index passes, and each three, which was met below i as often as met says, is met once in all
  unfoldable pub indices_left : ℕ → List ℕ → ℕ → Bool
  indices_left d met i =
      all (index_test d) (from (page_words b - i) i)
      && all (λ j. eqb (get_or met j 0 + length (keep (stands b m d j) (from (page_words b - i) i))) 1) (from (threes b m d) 0)

  -- pair j of page p, whose pairs start at word k: its form, and how it stands in the tables of d
  unfoldable pub pair_form : ℕ → ℕ → ℕ → Bool
  pair_form p k j = virtual b (word b m p (k + 2 * j)) && physical b m (word b m p (k + 1 + 2 * j))

  unfoldable pub pair_shut : ℕ → ℕ → ℕ → ℕ → Bool
  pair_shut d p k j = agrees b m d (word b m p (k + 2 * j)) (word b m p (k + 1 + 2 * j)) && shut_at b m d (word b m p (k + 2 * j))

-- the indices of d from i up to r have no tables
pub record Skipped (b : ℕ) (m : List ℕ) (d i r : ℕ) : Type 0 where
  pub low : i ≤ r
  pub high : r ≤ page_words b
  pub empty : all (no_tables b m d) (from (r - i) i) ≡ true

-- f holds at no number from i on and below n
abbrev pub Never : (ℕ → Bool) → ℕ → ℕ → Type 0
Never f n i = (k : ℕ) → i ≤ k → k < n → f k ≡ false

-- r is the first number from i on and below n at which f holds
abbrev pub First : (ℕ → Bool) → ℕ → ℕ → ℕ → Type 0
First f n i r = (i ≤ r) × (r < n) × (f r ≡ true) × Never f r i

-- r is the one number below n at which f holds
pub record Sole (f : ℕ → Bool) (n r : ℕ) : Type 0 where
  pub high : r < n
  pub holds : f r ≡ true
  pub sole : once f (from n 0) ≡ true
