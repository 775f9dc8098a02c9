-- "When memory is sound", sentence by sentence: records of propositions. Nothing here is executable: the crate block_soundness has the test that decides
-- it. Assumes nothing.
use Rattle.std.specs.Prelude.{◌≡◌, List, ◌≢◌, true, cond, ℕ, ◌+◌, ◌*◌, ◌/◌, ◌≤◌, ◌<◌, eqb, length}
use Rattle.std.specs.Int.Bits.{bit_and}
use Rattle.block_memory.specs.Geometry.{permitted, header_words, table_words, descriptor_words, structure_words, slot_words, first_byte, least_bytes}
use Rattle.block_memory.specs.Geometry.{all_rights, first_number}
use Rattle.block_memory.specs.Words.{word}
use Rattle.block_memory.specs.Partition.{root, current, Partition, parent, number, level, entry, structure, Has, field, start, end, rights, used, child}
use Rattle.block_memory.specs.Partition.{link, source, previous, next, place, named}

module _ (m : List ℕ) where
  -- ---- 1. "The length is permitted. The header is as above, and its word 3 is a partition."

  pub record Header : Type 0 where
    pub permits : permitted (length m) ≡ true
    pub size : word m 0 ≡ length m
    pub root_word : word m 1 ≡ root m
    pub first : word m 2 ≡ first_byte (length m)
    pub current_word : Partition m (current m)
    pub rest : (i : ℕ) → 4 ≤ i → i < header_words → word m i ≡ 0

  -- ---- 2. "Each table word 8+j is 0 or a d with d div 32 = j. The root is a partition."

  pub record Table : Type 0 where
    pub words : (j : ℕ) → j < table_words (length m) → word m (header_words + j) ≢ 0 → word m (header_words + j) / 32 ≡ j
    pub root_listed : Partition m (root m)

  -- ---- 3. "Descriptor words 3 to 7 are 0. The root's words 0 to 2 are 0. Any other's parent is a partition, whose block of the number in word 1 has use 3
  -- and has d standing in it; and its level is the parent's and 1, and below W/32."

  pub record RootDescriptor : Type 0 where
    pub no_parent : parent m (root m) ≡ 0
    pub no_number : number m (root m) ≡ 0
    pub top : level m (root m) ≡ 0

  pub record BelowParent (d : ℕ) : Type 0 where
    pub parent_listed : Partition m (parent m d)
    pub stands : used m (parent m d) (number m d) ≡ 3
    pub there : place m (parent m d) (number m d) ≡ d
    pub below : level m d ≡ level m (parent m d) + 1
    pub few : level m d < table_words (length m)

  pub record Descriptor (d : ℕ) : Type 0 where
    pub rest : (i : ℕ) → 3 ≤ i → i < 8 → word m (d + i) ≡ 0
    pub of_root : d ≡ root m → RootDescriptor
    pub of_other : d ≢ root m → BelowParent d

  -- ---- 4. "Each entry is 0 or the number of a block in d's hand. No number is in two entries."

  pub record Entries (d : ℕ) : Type 0 where
    pub in_hand : (e : ℕ) → entry m d e ≢ 0 → used m d (entry m d e) ≡ 1
    pub once : (e f : ℕ) → entry m d e ≢ 0 → entry m d e ≡ entry m d f → e ≡ f

  -- ---- 5. "The root's structure 1 is at D+32, has 0 in words 0 and 1, and its block 8 is there with no previous. Any other structure k has 0 or 1 in word
  -- 1, in the root 1; and the block of the number in its word 0, in d's own pool or the parent's, has use 4, link k, and child 0 in the one, d's number in the
  -- other."

  pub record RootStructure : Type 0 where
    pub at : structure m (root m) 1 ≡ root m + descriptor_words
    pub word0 : word m (root m + descriptor_words) ≡ 0
    pub word1 : word m (root m + descriptor_words + 1) ≡ 0
    pub block : used m (root m) first_number ≢ 0
    pub first : previous m (root m) first_number ≡ 0

  -- block n of partition h, that structure k of the partition with number c in h stands in
  pub record StandsIn (h n c k : ℕ) : Type 0 where
    pub use4 : used m h n ≡ 4
    pub linked : link m h n ≡ k
    pub whose : child m h n ≡ c

  -- structure k of d, at index s
  pub record Structure (d k s : ℕ) : Type 0 where
    pub own : word m (s + 1) ≤ 1
    pub of_root : d ≡ root m → word m (s + 1) ≡ 1
    pub in_own : word m (s + 1) ≡ 1 → StandsIn d (word m s) 0 k
    pub in_parent : word m (s + 1) ≢ 1 → StandsIn (parent m d) (word m s) (number m d) k

  pub record Structures (d : ℕ) : Type 0 where
    pub of_root : d ≡ root m → RootStructure
    pub others : (k : ℕ) → structure m d k ≢ 0 → ¬ ((d ≡ root m) × (k ≡ 1)) → Structure d k (structure m d k)

  -- ---- 6. "A free slot is all 0. A block has 32 bytes at least and ends in memory; its rights are at most 7 and its use at most 4."

  pub record Form (d n : ℕ) : Type 0 where
    pub long : start m d n + least_bytes ≤ end m d n
    pub inside : end m d n ≤ 4 * length m
    pub few_rights : rights m d n ≤ all_rights
    pub known : used m d n ≤ 4

  -- ---- 7. "In hand: child and link are 0. Lent: child is a child, and the child's block of the number in link has this one as source and no previous. Use 3:
  -- child and link are 0; there is room for 32 words, and what stands there is a partition whose words 0 and 1 are d and this number. Use 4: child is 0 or a
  -- child; there is room for 74 words, and what stands there is structure link of the partition that child names, with this number in word 0, and in word 1 1
  -- if child is 0, else 0."

  pub record InHand (d n : ℕ) : Type 0 where
    pub no_child : child m d n ≡ 0
    pub no_link : link m d n ≡ 0

  pub record Lent (d n : ℕ) : Type 0 where
    pub to_child : used m d (child m d n) ≡ 3
    pub from_this : source m (place m d (child m d n)) (link m d n) ≡ n
    pub first : previous m (place m d (child m d n)) (link m d n) ≡ 0

  pub record HoldsDescriptor (d n : ℕ) : Type 0 where
    pub no_child : child m d n ≡ 0
    pub no_link : link m d n ≡ 0
    pub room : 4 * (place m d n + descriptor_words) ≤ end m d n
    pub listed : Partition m (place m d n)
    pub parent_word : parent m (place m d n) ≡ d
    pub number_word : number m (place m d n) ≡ n

  pub record HoldsStructure (d n : ℕ) : Type 0 where
    pub whose : child m d n ≢ 0 → used m d (child m d n) ≡ 3
    pub room : 4 * (place m d n + structure_words) ≤ end m d n
    pub there : structure m (named m d (child m d n)) (link m d n) ≡ place m d n
    pub number_word : word m (place m d n) ≡ n
    pub own_word : word m (place m d n + 1) ≡ cond (eqb (child m d n) 0) 1 0

  pub record Use (d n : ℕ) : Type 0 where
    pub use1 : used m d n ≡ 1 → InHand d n
    pub use2 : used m d n ≡ 2 → Lent d n
    pub use3 : used m d n ≡ 3 → HoldsDescriptor d n
    pub use4 : used m d n ≡ 4 → HoldsStructure d n

  -- ---- 8. "In the root source is 0 and rights are 7. Elsewhere the parent's block of the number in source is lent to d and has all rights that this one has."

  pub record RootSource (n : ℕ) : Type 0 where
    pub no_source : source m (root m) n ≡ 0
    pub all : rights m (root m) n ≡ all_rights

  pub record FromParent (d n : ℕ) : Type 0 where
    pub lent : used m (parent m d) (source m d n) ≡ 2
    pub to_this : child m (parent m d) (source m d n) ≡ number m d
    pub no_more : bit_and (rights m d n) (rights m (parent m d) (source m d n)) ≡ rights m d n

  pub record Source (d n : ℕ) : Type 0 where
    pub of_root : d ≡ root m → RootSource n
    pub of_other : d ≢ root m → FromParent d n

  -- ---- 9. "If previous is 0, the block starts where its source starts, and the source's link is this number; in the root it starts at the first byte of the
  -- starting block and its number is 8. Else the previous block's next is this. If next is 0, the block ends where its source ends, in the root at 4W. Else the
  -- next block's previous is this, its start is this one's end, and its source and rights are the same."

  -- where the source of block n of d starts and ends, and the number of its first piece
  abbrev pub source_start : ℕ → ℕ → ℕ
  source_start d n = cond (eqb d (root m)) (first_byte (length m)) (start m (parent m d) (source m d n))

  abbrev pub source_end : ℕ → ℕ → ℕ
  source_end d n = cond (eqb d (root m)) (4 * length m) (end m (parent m d) (source m d n))

  abbrev pub source_link : ℕ → ℕ → ℕ
  source_link d n = cond (eqb d (root m)) first_number (link m (parent m d) (source m d n))

  pub record Next (d n : ℕ) : Type 0 where
    pub back : previous m d (next m d n) ≡ n
    pub adjoins : start m d (next m d n) ≡ end m d n
    pub same_source : source m d (next m d n) ≡ source m d n
    pub same_rights : rights m d (next m d n) ≡ rights m d n

  pub record Pieces (d n : ℕ) : Type 0 where
    pub first : previous m d n ≡ 0 → (start m d n ≡ source_start d n) × (source_link d n ≡ n)
    pub later : previous m d n ≢ 0 → next m d (previous m d n) ≡ n
    pub last : next m d n ≡ 0 → end m d n ≡ source_end d n
    pub more : next m d n ≢ 0 → Next d n

  -- ---- all of them

  pub record Block (d n : ℕ) : Type 0 where
    pub form : Form d n
    pub uses : Use d n
    pub sources : Source d n
    pub pieces : Pieces d n

  pub record Slot (d n : ℕ) : Type 0 where
    pub free : used m d n ≡ 0 → (f : ℕ) → f < slot_words → field m d n f ≡ 0
    pub taken : used m d n ≢ 0 → Block d n

  pub record Sound : Type 0 where
    pub header : Header
    pub table : Table
    pub descriptors : (d : ℕ) → Partition m d → Descriptor d
    pub entries : (d : ℕ) → Partition m d → Entries d
    pub structures : (d : ℕ) → Partition m d → Structures d
    pub slots : (d n : ℕ) → Partition m d → Has m d n → Slot d n
