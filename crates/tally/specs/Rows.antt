-- The words of a table as a list, and what is asked of the words of a row, whose places are 0 up to the words of a page: w of the page table, x of shadow
-- 1, y of shadow 2. Assumes nothing.
use Rattle.std.specs.Prelude.{◌≡◌, List, [], Bool, true, cond, not, ◌&&◌, ◌||◌, ℕ, ◌+◌, ◌-◌, ◌*◌, ◌<◌, leb, eqb, length, get_or, Option, MatchOption}
use Rattle.tally.specs.Search.{seek}
use Rattle.memory.specs.Geometry.{page_words, page_of, most_threes}
use Rattle.memory.specs.Words.{word, page}
use Rattle.memory.specs.Entry.{accessible, rights, all_rights, holds, write_and_execute}
use Rattle.memory.specs.Partition.{directory, shadow1, parent, threes, table_for, table_word}
use Rattle.memory.specs.Counts.{child_at}
use Rattle.soundness.specs.Test.{virtual, child_test, kernel_shut}
use Rattle.judging.specs.Quick.{entry_test, rise}

abbrev pub virtual_pages : ℕ → ℕ
virtual_pages b = page_words b * page_words b

-- the word of s at i is not 0
abbrev pub used : List ℕ → ℕ → Bool
used s i = not (eqb (get_or s i 0) 0)

-- a step over the places of s that are used, where i is the next or the end: the place that it gives, and the next after it
abbrev pub Gives : List ℕ → ℕ → Option ℕ → ℕ → Type 0
Gives s i r j = MatchOption r (i ≡ length s) (λ k. (k ≡ i) × (i < length s) × (j ≡ seek (used s) (length s - (i + 1)) (i + 1)))

-- the table that a word of a directory or a shadow names: none, or the words of a page
unfoldable pub table : ℕ → List ℕ → ℕ → List ℕ
table b m w = cond (eqb w 0) [] (page b m (page_of b w))

abbrev pub child_words : ℕ → ℕ → Bool
child_words w x = not (eqb w 0) && eqb x 1

abbrev pub shut_words : ℕ → ℕ → Bool
shut_words w x = not (eqb w 0) && leb x 1 && eqb (accessible w) 0

abbrev pub hand_words : ℕ → ℕ → Bool
hand_words w x = not (eqb w 0) && eqb (accessible w) 1 && eqb x 0

module _ (b : ℕ) (m : List ℕ) where
  -- the kernel pages of the child that stands there, if one does
  abbrev pub due_words : ℕ → ℕ → ℕ
  due_words w x = cond (child_words w x) (5 + 3 * threes b m (page_of b w)) 0

  -- the directory and the shadow 1 of d
  abbrev pub Lends : ℕ → ℕ → ℕ → Type 0
  Lends d dir sh1 = (dir ≡ directory b m d) × (sh1 ≡ shadow1 b m d)

  -- the page whose word is w comes from the parent, at address y there, which lends it to the child at v
  abbrev pub from_words : ℕ → ℕ → ℕ → ℕ → ℕ → Bool
  from_words dir sh1 v w y =
      not (eqb (table_word b m dir (page_of b y)) 0) && eqb (page_of b w) (page_of b (table_word b m dir (page_of b y)))
      && eqb (accessible w) (accessible (table_word b m dir (page_of b y))) && holds (rights w) (table_word b m dir (page_of b y))
      && eqb (table_word b m sh1 (page_of b y)) v

  -- a mapping of a partition but the root
  abbrev pub below_words : ℕ → ℕ → ℕ → ℕ → ℕ → Bool
  below_words dir sh1 v w y = not (write_and_execute w) && from_words dir sh1 v w y

  abbrev pub lent_word : ℕ → ℕ → Bool
  lent_word d x = virtual b x && not (eqb (table_for b m d x) 0) && child_at b m d x

  -- a word above 1 that passed, or 0
  abbrev pub Passed : ℕ → ℕ → Type 0
  Passed d x = (eqb x 0 || not (leb x 1) && lent_word d x) ≡ true

  abbrev pub shadow1_word : ℕ → ℕ → ℕ → ℕ → Bool
  shadow1_word d v w x =
      cond (eqb x 0) true
      (cond (eqb x 1) (leb (threes b m (page_of b w)) most_threes && child_test b m d v (page_of b w) && kernel_shut b m d (page_of b w)) (lent_word d x))

  -- the three words of d at address v
  abbrev pub cell_words : ℕ → ℕ → ℕ → ℕ → ℕ → Bool
  cell_words d v w x y =
      cond (eqb w 0) (eqb x 0 && eqb y 0)
      (entry_test b m w && virtual b y && shadow1_word d v w x
      && (eqb d 1 || below_words (directory b m (parent b m d)) (shadow1 b m (parent b m d)) (word b m d 0) w y))

-- the last word above 1, once x is reached
abbrev pub last_word : ℕ → ℕ → ℕ
last_word to x = cond (leb x 1) to x

-- the last shadow 2 word of a page that is mapped, as long as they rise, once w and y are reached
abbrev pub rise_at : ℕ → ℕ → ℕ → ℕ
rise_at t w y = cond (eqb w 0) t (rise t y)

-- the words of the root at virtual page v, with t threes: it "maps virtual page v (1 to F) to page 5+3T+v"
abbrev pub root_word : ℕ → ℕ → ℕ → ℕ → ℕ → Bool
root_word b t flat v w = cond (leb 1 v && leb v flat) (eqb (page_of b w) (5 + 3 * t + v) && eqb (rights w) all_rights) (eqb w 0)

abbrev pub root_words : ℕ → ℕ → ℕ → ℕ → ℕ → ℕ → Bool
root_words b t flat v w y = eqb y 0 && root_word b t flat v w
