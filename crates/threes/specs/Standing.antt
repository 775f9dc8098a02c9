-- What sound memory says of a three that is dropped, and the list and roots without it. Assumes nothing.
use Rattle.std.specs.Prelude.{◌≢◌, List, ℕ, ◌+◌, ◌*◌, ◌≤◌, ◌<◌, length}
use Rattle.memory.specs.Geometry.{page_words, page_of, directory_index}
use Rattle.memory.specs.Words.{index, word, put, page, fill}
use Rattle.memory.specs.Partition.{directory, shadow1, shadow2, list, table_for}
use Rattle.rules.specs.Effects.{drop_three, three_place}

module _ (b : ℕ) (m : List ℕ) where
  -- the page l has room for a list, and three j is in it
  pub record Listed (l j : ℕ) : Type 0 where
    pub inside : index b l 61 ≤ length m
    pub few : word b m l 0 ≤ 61
    pub three : 7 + 6 * j ≤ word b m l 0

  -- the child k has a three for t: it is listed, and the list is no page of the roots
  pub record Standing (k t : ℕ) : Type 0 where
    pub table : 0 < table_for b m k t
    pub listed : Listed (list b m k) (three_place b m k t)
    pub column : directory_index b (page_of b t) < page_words b
    pub directory_apart : directory b m k ≢ list b m k
    pub shadow1_apart : shadow1 b m k ≢ list b m k
    pub shadow2_apart : shadow2 b m k ≢ list b m k

  -- x, y and z at index i of the directory, shadow 1 and shadow 2
  abbrev pub put_three : ℕ → ℕ → ℕ → ℕ → ℕ → ℕ → ℕ → List ℕ
  put_three d s₁ s₂ i x y z = put b (put b (put b m d i x) s₁ i y) s₂ i z

  -- the roots and the list of k without three j, which stands for t
  abbrev pub dropped : ℕ → ℕ → ℕ → List ℕ
  dropped k t j =
      fill b (put_three (directory b m k) (shadow1 b m k) (shadow2 b m k) (directory_index b (page_of b t)) 0 0 0) (list b m k)
      (drop_three j (page b m (list b m k)))
