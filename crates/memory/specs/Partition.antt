-- Lookups. A partition is named by the physical page d of its descriptor, a virtual page k by its number, an address by v. Assumes nothing.
use Rattle.std.specs.Prelude.{List, Bool, cond, ◌&&◌, ℕ, ◌-◌, ◌/◌, eqb}
use Rattle.memory.specs.Geometry.{page_of, directory_index, table_index}
use Rattle.memory.specs.Words.{word, put}
use Rattle.memory.specs.Entry.{present, accessible}

module _ (b : ℕ) where
  -- "word 0 N"
  abbrev pub pages : List ℕ → ℕ
  pages m = word b m 0 0

  -- "4 physical address of the current partition's descriptor"
  abbrev pub current : List ℕ → ℕ
  current m = page_of b (word b m 0 4)

  -- "twelve words, pairs of virtual address in the parent and physical address, for descriptor, directory, shadow 1, shadow 2, list; then 0
  -- and the parent's descriptor address"
  abbrev pub directory : List ℕ → ℕ → ℕ
  directory m d = page_of b (word b m d 3)

  abbrev pub shadow1 : List ℕ → ℕ → ℕ
  shadow1 m d = page_of b (word b m d 5)

  abbrev pub shadow2 : List ℕ → ℕ → ℕ
  shadow2 m d = page_of b (word b m d 7)

  abbrev pub list : List ℕ → ℕ → ℕ
  list m d = page_of b (word b m d 9)

  abbrev pub parent : List ℕ → ℕ → ℕ
  parent m d = page_of b (word b m d 11)

  -- document 02, L8: "The live vcli flag is word 12 of the descriptor"
  abbrev pub flag : List ℕ → ℕ → ℕ
  flag m d = word b m d 12

  abbrev pub set_flag : List ℕ → ℕ → ℕ → List ℕ
  set_flag m d x = put b m d 12 x

  -- "word 0 first free word index, 1+6n with n threes"
  abbrev pub threes : List ℕ → ℕ → ℕ
  threes m d = (word b m (list m d) 0 - 1) / 6

  -- ---- a table of three kinds, under its root: a directory or a shadow

  -- the root's word for virtual page k: 0, or the table's physical address + 1
  abbrev pub table_at : List ℕ → ℕ → ℕ → ℕ
  table_at m root k = word b m root (directory_index b k)

  -- "A word in an absent table counts as 0."
  unfoldable pub table_word : List ℕ → ℕ → ℕ → ℕ
  table_word m root k = cond (eqb (table_at m root k) 0) 0 (word b m (page_of b (table_at m root k)) (table_index b k))

  unfoldable pub put_table_word : List ℕ → ℕ → ℕ → ℕ → List ℕ
  put_table_word m root k x = cond (eqb (table_at m root k) 0) m (put b m (page_of b (table_at m root k)) (table_index b k) x)

  -- ---- the three table words of address v in partition d: page table, shadow 1, shadow 2

  abbrev pub table_for : List ℕ → ℕ → ℕ → ℕ
  table_for m d v = table_at m (directory m d) (page_of b v)

  abbrev pub mapping : List ℕ → ℕ → ℕ → ℕ
  mapping m d v = table_word m (directory m d) (page_of b v)

  abbrev pub lent : List ℕ → ℕ → ℕ → ℕ
  lent m d v = table_word m (shadow1 m d) (page_of b v)

  abbrev pub above : List ℕ → ℕ → ℕ → ℕ
  above m d v = table_word m (shadow2 m d) (page_of b v)

  abbrev pub set_mapping : List ℕ → ℕ → ℕ → ℕ → List ℕ
  set_mapping m d v x = put_table_word m (directory m d) (page_of b v) x

  abbrev pub set_lent : List ℕ → ℕ → ℕ → ℕ → List ℕ
  set_lent m d v x = put_table_word m (shadow1 m d) (page_of b v) x

  abbrev pub set_above : List ℕ → ℕ → ℕ → ℕ → List ℕ
  set_above m d v x = put_table_word m (shadow2 m d) (page_of b v) x

  -- "A page is in hand of a partition where it is present, accessible and has shadow 1 word 0."
  abbrev pub in_hand : List ℕ → ℕ → ℕ → Bool
  in_hand m d v = present (mapping m d v) && eqb (accessible (mapping m d v)) 1 && eqb (lent m d v) 0
