-- The test of soundness as the code makes it: it looks at each table word a fixed number of times and searches for nothing. It agrees with the test of
-- the crate soundness (proofs/). That no page but the children's kernel pages is inaccessible and not lent is told from the number of such pages. That
-- each page lent to a child is mapped in it once is told from each page having exactly one use and from the child's shadow 2 words: no two are the same
-- where they rise; where they don't, the pages lent are as many as those mapped. Assumes nothing.
use Rattle.std.specs.Prelude.{List, [], ◌∷◌, Bool, true, cond, not, ◌&&◌, ◌||◌, ℕ, ◌+◌, ◌*◌, leb, ltb, eqb, length}
use Rattle.walk.specs.Lists.{sum_of}
use Rattle.walk.specs.Finite.{from, all, keep, image}
use Rattle.walk.specs.Walk as W
use Rattle.memory.specs.Geometry.{page_words, page_of, most_threes, most_depth}
use Rattle.memory.specs.Words.{word}
use Rattle.memory.specs.Entry.{entry, accessible, rights, write_and_execute}
use Rattle.memory.specs.Partition.{pages, current, parent, threes, table_for, mapping, lent, above}
use Rattle.memory.specs.Counts.{tabled, child_at, child_of, children}
use Rattle.soundness.specs.Test.{virtual, header_test, descriptor_test, directory_test, list_test, root_test, threes_test, child_test, from_parent, kernel_shut, own, judged, under}

-- the last of the numbers, where each is above the one before, from t on, and below the largest word; else the largest word, which stays
abbrev pub largest : ℕ
largest = 4294967295

abbrev pub rise : ℕ → ℕ → ℕ
rise t y = cond (ltb t y && ltb y largest) y largest

unfoldable pub top : ℕ → List ℕ → ℕ
top t [] = t
top t (y ∷ ys) = top (rise t y) ys

module _ (b : ℕ) (m : List ℕ) where
  -- a page table word that is not 0: a page of the memory, and no bit but those of accessible and rights
  unfoldable pub entry_test : ℕ → Bool
  entry_test w = eqb (entry b (page_of b w) (accessible w) (rights w)) w && ltb (page_of b w) (pages b m)

  -- a child stands at v of d. Its list has no more than ten threes, so that no more pairs are looked at on any memory.
  unfoldable pub child_cell : ℕ → ℕ → Bool
  child_cell d v =
      leb (threes b m (child_of b m d v)) most_threes && child_test b m d v (child_of b m d v) && kernel_shut b m d (child_of b m d v)

  -- the page of d at v is lent: to a child of d
  unfoldable pub lent_cell : ℕ → ℕ → Bool
  lent_cell d v = virtual b (lent b m d v) && not (eqb (table_for b m d (lent b m d v)) 0) && child_at b m d (lent b m d v)

  -- what shadow 1 says of a mapping of d at v
  unfoldable pub shadow1_cell : ℕ → ℕ → Bool
  shadow1_cell d v = cond (eqb (lent b m d v) 0) true (cond (eqb (lent b m d v) 1) (child_cell d v) (lent_cell d v))

  -- a mapping of a partition but the root: not both writable and executable, and it comes from the parent
  unfoldable pub below_root : ℕ → ℕ → Bool
  below_root d v = not (write_and_execute (mapping b m d v)) && from_parent b m (parent b m d) (word b m d 0) d v

  -- the three table words of d at v
  unfoldable pub cell : ℕ → ℕ → Bool
  cell d v =
      cond (eqb (mapping b m d v) 0) (eqb (lent b m d v) 0 && eqb (above b m d v) 0)
      (entry_test (mapping b m d v) && virtual b (above b m d v) && shadow1_cell d v
      && (eqb d 1 || below_root d v))

  -- a page of d that is neither lent nor accessible; how many there are, and how many kernel pages d's children have
  unfoldable pub shut_cell : ℕ → ℕ → Bool
  shut_cell d v = not (eqb (mapping b m d v) 0) && leb (lent b m d v) 1 && eqb (accessible (mapping b m d v)) 0

  unfoldable pub shut_count : ℕ → ℕ
  shut_count d = length (keep (shut_cell d) (tabled b m d))

  unfoldable pub due_count : ℕ → ℕ
  due_count d = sum_of (λ c. 5 + 3 * threes b m c) (children b m d)

  -- how many pages d lends to its child at v, and how many pages d maps
  unfoldable pub lent_count : ℕ → ℕ → ℕ
  lent_count d v = length (keep (λ x. eqb (lent b m d x) v) (tabled b m d))

  unfoldable pub mapped_count : ℕ → ℕ
  mapped_count d = length (keep (λ v. not (eqb (mapping b m d v) 0)) (tabled b m d))

  -- the shadow 2 words of the pages that d maps, in the order of their addresses
  unfoldable pub sources : ℕ → List ℕ
  sources d = image (above b m d) (keep (λ v. not (eqb (mapping b m d v) 0)) (tabled b m d))

  unfoldable pub rising : ℕ → Bool
  rising d = not (eqb (top 0 (sources d)) largest)

  -- what is asked of a partition before its pages are marked
  unfoldable pub partition_test : ℕ → Bool
  partition_test d =
      descriptor_test b m d && all (directory_test b m d) (from (page_words b) 0) && list_test b m d && threes_test b m d
      && all (cell d) (tabled b m d) && eqb (mapping b m d 0) 0 && eqb (shut_count d) (due_count d)
      && (eqb d 1 || (rising d || eqb (lent_count (parent b m d) (word b m d 0)) (mapped_count d)))

  unfoldable pub quick_test : Bool
  quick_test =
      header_test b m && root_test b m && judged b m (W.judge (children b m) (own b m) partition_test most_depth (W.clear (pages b m)) 1)
      && under b m most_depth (current b m)
