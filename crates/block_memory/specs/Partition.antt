-- Lookups. A partition is named by the index d of its descriptor, a block of its pool by the number n. "What isn't there to be read counts as 0."
-- Assumes nothing.
use Rattle.std.specs.Prelude.{◌≡◌, List, [], ◌∷◌, ◌≢◌, Bool, cond, not, ◌&&◌, ℕ, ◌+◌, ◌*◌, ◌/◌, ◌%◌, ◌<◌, leb, ltb, eqb, length}
use Rattle.walk.specs.Finite.{from, all, keep, image}
use Rattle.block_memory.specs.Geometry.{header_words, table_words, table_index, slot_words, most_structures, most_enabled, root_of, first_number}
use Rattle.block_memory.specs.Geometry.{most_numbers, word_from}
use Rattle.common.specs.Words.{overwrite}
use Rattle.block_memory.specs.Words.{word}

-- the first element at which f holds, or 0
unfoldable pub lowest : (ℕ → Bool) → List ℕ → ℕ
lowest f [] = 0
lowest f (x ∷ xs) = let r = lowest f xs in cond (f x) x r

-- the numbers that blocks, structures and entries may have
abbrev pub numbers : List ℕ
numbers = from most_numbers first_number

abbrev pub structure_numbers : List ℕ
structure_numbers = from most_structures 1

abbrev pub entry_numbers : List ℕ
entry_numbers = from most_enabled 1

module _ (m : List ℕ) where
  -- ---- header and table

  abbrev pub root : ℕ
  root = root_of (length m)

  -- "3 index of the current partition's descriptor"
  abbrev pub current : ℕ
  current = word m 3

  -- "d is a partition means that 0 < d < W and word 8 + d div 32 is d"
  pub record Partition (d : ℕ) : Type 0 where
    pub some : 0 < d
    pub inside : d < length m
    pub listed : word m (table_index d) ≡ d

  unfoldable pub is_partition : ℕ → Bool
  is_partition d = ltb 0 d && ltb d (length m) && eqb (word m (table_index d)) d

  -- the partitions, in the order of the table
  unfoldable pub partitions : List ℕ
  partitions = keep (λ d. not (eqb d 0)) (image (λ j. word m (header_words + j)) (from (table_words (length m)) 0))

  -- ---- descriptor: "0 index of the parent's descriptor; 1 number of the block, in the parent's pool, that it stands in; 2 level"

  abbrev pub parent : ℕ → ℕ
  parent d = word m d

  abbrev pub number : ℕ → ℕ
  number d = word m (d + 1)

  abbrev pub level : ℕ → ℕ
  level d = word m (d + 2)

  -- "7+e, for entry e from 1 to 8, 0 or the number of an enabled block; 15+k, for k from 1 to 16, 0 or the index of structure k"
  unfoldable pub entry : ℕ → ℕ → ℕ
  entry d e = cond (leb 1 e && leb e most_enabled) (word m (d + 7 + e)) 0

  unfoldable pub structure : ℕ → ℕ → ℕ
  structure d k = cond (leb 1 k && leb k most_structures) (word m (d + 15 + k)) 0

  -- ---- slot: "Block n of a partition is slot n mod 8 of structure n div 8", "slot i from word 2+9i on"

  -- d has a slot of that number
  abbrev pub Has : ℕ → ℕ → Type 0
  Has d n = structure d (n / 8) ≢ 0

  abbrev pub slot : ℕ → ℕ → ℕ
  slot d n = structure d (n / 8) + 2 + slot_words * (n % 8)

  unfoldable pub field : ℕ → ℕ → ℕ → ℕ
  field d n f = cond (eqb (structure d (n / 8)) 0) 0 (word m (slot d n + f))

  -- the words ws written to the slot, from its word f on
  unfoldable pub put_slot : ℕ → ℕ → ℕ → List ℕ → List ℕ
  put_slot d n f ws = cond (eqb (structure d (n / 8)) 0) m (overwrite m (slot d n + f) ws)

  abbrev pub start : ℕ → ℕ → ℕ
  start d n = field d n 0

  abbrev pub end : ℕ → ℕ → ℕ
  end d n = field d n 1

  abbrev pub rights : ℕ → ℕ → ℕ
  rights d n = field d n 2

  -- "1 in hand, 2 lent, 3 a child's descriptor stands in it, 4 a structure stands in it"; 0 is a free slot
  abbrev pub used : ℕ → ℕ → ℕ
  used d n = field d n 3

  abbrev pub child : ℕ → ℕ → ℕ
  child d n = field d n 4

  abbrev pub link : ℕ → ℕ → ℕ
  link d n = field d n 5

  abbrev pub source : ℕ → ℕ → ℕ
  source d n = field d n 6

  abbrev pub previous : ℕ → ℕ → ℕ
  previous d n = field d n 7

  abbrev pub next : ℕ → ℕ → ℕ
  next d n = field d n 8

  -- where a record in block n of d stands; "there is room for n words where 4(index + n) is at most the block's end"
  abbrev pub place : ℕ → ℕ → ℕ
  place d n = word_from (start d n)

  -- "an argument partition is 0 for the caller or a child's number", and so is a slot's word 4 of use 4
  abbrev pub named : ℕ → ℕ → ℕ
  named d c = cond (eqb c 0) d (place d c)

  -- the partition whose pool has the block that the structure at s, of d, stands in
  abbrev pub holder : ℕ → ℕ → ℕ
  holder d s = cond (eqb (word m (s + 1)) 1) d (parent d)

  -- ---- searches

  -- block n of d has the byte x
  unfoldable pub has_byte : ℕ → ℕ → ℕ → Bool
  has_byte d x n = not (eqb (used d n) 0) && leb (start d n) x && ltb x (end d n)

  unfoldable pub block_at : ℕ → ℕ → ℕ
  block_at d x = lowest (has_byte d x) numbers

  -- "Free number: the lowest number of a free slot"
  unfoldable pub free_number : ℕ → ℕ
  free_number d = lowest (λ n. not (eqb (structure d (n / 8)) 0) && eqb (used d n) 0) numbers

  -- "the lowest that the partition has no structure for"
  unfoldable pub free_structure : ℕ → ℕ
  free_structure d = lowest (λ k. eqb (structure d k) 0) structure_numbers

  -- "the structure of lowest k whose eight slots are free"
  unfoldable pub empty_structure : ℕ → ℕ
  empty_structure d = lowest (λ k. not (eqb (structure d k) 0) && all (λ i. eqb (used d (8 * k + i)) 0) (from 8 0)) structure_numbers

  -- the entry that is n; of 0, the lowest entry that is 0
  unfoldable pub entry_of : ℕ → ℕ → ℕ
  entry_of d n = lowest (λ e. eqb (entry d e) n) entry_numbers
