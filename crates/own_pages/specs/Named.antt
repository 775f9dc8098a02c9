-- The pages of a partition as the code looked them up. Assumes nothing.
use Rattle.std.specs.Prelude.{◌≡◌, List, ℕ, ◌≤◌, length}
use Rattle.memory.specs.Geometry.{page_words}
use Rattle.memory.specs.Words.{word, index}
use Rattle.memory.specs.Partition.{directory, shadow1, shadow2}

-- page p lies in the memory
abbrev pub Whole : ℕ → List ℕ → ℕ → Type 0
Whole b m p = index b p (page_words b) ≤ length m

-- w, x and y are the words of index i of d's directory, shadow 1 and shadow 2
pub record WordsAt (b : ℕ) (m : List ℕ) (d i w x y : ℕ) : Type 0 where
  pub in_directory : w ≡ word b m (directory b m d) i
  pub in_shadow1 : x ≡ word b m (shadow1 b m d) i
  pub in_shadow2 : y ≡ word b m (shadow2 b m d) i
