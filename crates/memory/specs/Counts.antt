-- The tree's partitions as a list, and the two counts of document 01, each by its own rule. Assumes nothing.
use Rattle.std.specs.Prelude.{List, [], Bool, cond, ◌&&◌, ℕ, suc, ◌+◌, ◌*◌, eqb, length}
use Rattle.walk.specs.Lists.{flat, sum_of}
use Rattle.walk.specs.Finite.{from, keep, image}
use Rattle.walk.specs.Tree.{walk}
use Rattle.memory.specs.Geometry.{page_words, address, page_of, most_depth}
use Rattle.memory.specs.Words.{word}
use Rattle.memory.specs.Entry.{present}
use Rattle.memory.specs.Partition.{directory, threes, mapping, lent, in_hand}

module _ (b : ℕ) (m : List ℕ) where
  -- the addresses of the virtual pages for which partition d has tables: those of directory index i, and all
  unfoldable pub row : ℕ → ℕ → List ℕ
  row d i = cond (eqb (word b m (directory b m d) i) 0) [] (image (λ j. address b (i * page_words b + j)) (from (page_words b) 0))

  unfoldable pub tabled : ℕ → List ℕ
  tabled d = flat (row d) (from (page_words b) 0)

  -- a child of d stands at v: a mapping with "shadow 1 word 1"; and its descriptor's page
  unfoldable pub child_at : ℕ → ℕ → Bool
  child_at d v = present (mapping b m d v) && eqb (lent b m d v) 1

  unfoldable pub child_of : ℕ → ℕ → ℕ
  child_of d v = page_of b (mapping b m d v)

  unfoldable pub children : ℕ → List ℕ
  children d = image (child_of d) (keep (child_at d) (tabled d))

  -- all partitions of the tree, and those below the root, down to the depth that is allowed
  abbrev pub partitions : List ℕ
  partitions = walk children (suc most_depth) 1

  abbrev pub below_root : List ℕ
  below_root = flat (walk children most_depth) (children 1)

  -- the addresses at which d has a page in hand
  unfoldable pub hand_addresses : ℕ → List ℕ
  hand_addresses d = keep (in_hand b m d) (tabled d)

  -- "The count in hand is taken over the mappings of all partitions, one for each that is in hand."
  unfoldable pub in_hand_count : ℕ
  in_hand_count = sum_of (λ d. length (hand_addresses d)) partitions

  -- "The kernel count is 5 for each partition but the root, and 1 for each pair in its list."
  unfoldable pub kernel_count : ℕ
  kernel_count = sum_of (λ d. 5 + 3 * threes b m d) below_root
