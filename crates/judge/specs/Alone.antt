-- The test of a partition in the order of the code: the forms of its own pages, then the counts; its cells, which are looked at last, and then whether each
-- page that its parent lends to it is mapped once. Assumes nothing.
use Rattle.std.specs.Prelude.{List, Bool, ◌&&◌, ◌||◌, ℕ, eqb}
use Rattle.walk.specs.Finite.{from, all}
use Rattle.memory.specs.Geometry.{page_words}
use Rattle.memory.specs.Words.{word}
use Rattle.memory.specs.Partition.{parent, mapping}
use Rattle.soundness.specs.Test.{descriptor_test, directory_test, list_test, threes_test}
use Rattle.memory.specs.Counts.{tabled}
use Rattle.judging.specs.Quick.{cell, shut_count, due_count, rising, lent_count}

unfoldable pub alone_test : ℕ → List ℕ → ℕ → Bool
alone_test b m d =
    descriptor_test b m d && all (directory_test b m d) (from (page_words b) 0) && list_test b m d && threes_test b m d
    && (eqb (mapping b m d 0) 0 && eqb (shut_count b m d) (due_count b m d))

-- d maps n pages
unfoldable pub cells_test : ℕ → List ℕ → ℕ → ℕ → Bool
cells_test b m d n = all (cell b m d) (tabled b m d) && (eqb d 1 || (rising b m d || eqb (lent_count b m (parent b m d) (word b m d 0)) n))
