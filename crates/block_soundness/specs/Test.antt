-- The test of soundness, in the shape of the sentences: one pass over the table. proofs/Whole.antt proves that it decides `Sound`. Assumes nothing.
use Rattle.std.specs.Prelude.{List, Bool, cond, not, ◌&&◌, ◌||◌, ℕ, ◌+◌, ◌*◌, ◌/◌, leb, ltb, eqb, length}
use Rattle.std.specs.Int.Bits.{bit_and}
use Rattle.walk.specs.Finite.{from, all}
use Rattle.block_memory.specs.Geometry.{permitted, header_words, table_words, descriptor_words, structure_words, slot_words, first_byte, least_bytes, all_rights}
use Rattle.block_memory.specs.Geometry.{first_number}
use Rattle.block_memory.specs.Words.{word}
use Rattle.block_memory.specs.Partition.{numbers, structure_numbers, entry_numbers, root, current, is_partition, parent, number, level, entry, structure, field}
use Rattle.block_memory.specs.Partition.{start, end, rights, used, child, link, source, previous, next, place, named}
use Rattle.block_memory.specs.Sound.{source_start, source_end, source_link}

module _ (m : List ℕ) where
  -- ---- 1, 2

  unfoldable pub header_test : Bool
  header_test =
      permitted (length m) && eqb (word m 0) (length m) && eqb (word m 1) (root m) && eqb (word m 2) (first_byte (length m))
      && is_partition m (current m) && all (λ i. eqb (word m i) 0) (from 4 4)

  -- ---- 3

  unfoldable pub descriptor_test : ℕ → Bool
  descriptor_test d =
      all (λ i. eqb (word m (d + i)) 0) (from 5 3)
      && cond (eqb d (root m))
      (eqb (parent m (root m)) 0 && eqb (number m (root m)) 0 && eqb (level m (root m)) 0)
      (is_partition m (parent m d) && eqb (used m (parent m d) (number m d)) 3 && eqb (place m (parent m d) (number m d)) d
      && eqb (level m d) (level m (parent m d) + 1) && ltb (level m d) (table_words (length m)))

  -- ---- 4

  unfoldable pub entries_test : ℕ → Bool
  entries_test d = all (λ e. eqb (entry m d e) 0 || (eqb (used m d (entry m d e)) 1 && all (λ f. not (eqb (entry m d e) (entry m d f)) || eqb e f) entry_numbers))
      entry_numbers

  -- ---- 5

  unfoldable pub root_structure_test : Bool
  root_structure_test =
      eqb (structure m (root m) 1) (root m + descriptor_words) && eqb (word m (root m + descriptor_words)) 0 && eqb (word m (root m + descriptor_words + 1)) 0
      && not (eqb (used m (root m) first_number) 0) && eqb (previous m (root m) first_number) 0

  unfoldable pub stands_in : ℕ → ℕ → ℕ → ℕ → Bool
  stands_in h n c k = eqb (used m h n) 4 && eqb (link m h n) k && eqb (child m h n) c

  unfoldable pub structure_test : ℕ → ℕ → ℕ → Bool
  structure_test d k s =
      leb (word m (s + 1)) 1 && (not (eqb d (root m)) || eqb (word m (s + 1)) 1)
      && cond (eqb (word m (s + 1)) 1) (stands_in d (word m s) 0 k) (stands_in (parent m d) (word m s) (number m d) k)

  unfoldable pub structures_test : ℕ → Bool
  structures_test d =
      (not (eqb d (root m)) || root_structure_test)
      && all (λ k. eqb (structure m d k) 0 || ((eqb d (root m) && eqb k 1) || structure_test d k (structure m d k))) structure_numbers

  -- ---- 6

  unfoldable pub form_test : ℕ → ℕ → Bool
  form_test d n =
      leb (start m d n + least_bytes) (end m d n) && leb (end m d n) (4 * length m) && leb (rights m d n) all_rights && leb (used m d n) 4

  -- ---- 7

  unfoldable pub lent_test : ℕ → ℕ → Bool
  lent_test d n =
      eqb (used m d (child m d n)) 3 && eqb (source m (place m d (child m d n)) (link m d n)) n
      && eqb (previous m (place m d (child m d n)) (link m d n)) 0

  unfoldable pub holds_descriptor : ℕ → ℕ → Bool
  holds_descriptor d n =
      eqb (child m d n) 0 && eqb (link m d n) 0 && leb (4 * (place m d n + descriptor_words)) (end m d n)
      && is_partition m (place m d n) && eqb (parent m (place m d n)) d && eqb (number m (place m d n)) n

  unfoldable pub holds_structure : ℕ → ℕ → Bool
  holds_structure d n =
      (eqb (child m d n) 0 || eqb (used m d (child m d n)) 3) && leb (4 * (place m d n + structure_words)) (end m d n)
      && eqb (structure m (named m d (child m d n)) (link m d n)) (place m d n)
      && eqb (word m (place m d n)) n && eqb (word m (place m d n + 1)) (cond (eqb (child m d n) 0) 1 0)

  unfoldable pub use_test : ℕ → ℕ → Bool
  use_test d n =
      (not (eqb (used m d n) 1) || (eqb (child m d n) 0 && eqb (link m d n) 0))
      && (not (eqb (used m d n) 2) || lent_test d n)
      && (not (eqb (used m d n) 3) || holds_descriptor d n)
      && (not (eqb (used m d n) 4) || holds_structure d n)

  -- ---- 8

  unfoldable pub source_test : ℕ → ℕ → Bool
  source_test d n =
      cond (eqb d (root m))
      (eqb (source m (root m) n) 0 && eqb (rights m (root m) n) all_rights)
      (eqb (used m (parent m d) (source m d n)) 2 && eqb (child m (parent m d) (source m d n)) (number m d)
      && eqb (bit_and (rights m d n) (rights m (parent m d) (source m d n))) (rights m d n))

  -- ---- 9

  unfoldable pub next_test : ℕ → ℕ → Bool
  next_test d n =
      eqb (previous m d (next m d n)) n && eqb (start m d (next m d n)) (end m d n) && eqb (source m d (next m d n)) (source m d n)
      && eqb (rights m d (next m d n)) (rights m d n)

  unfoldable pub pieces_test : ℕ → ℕ → Bool
  pieces_test d n =
      cond (eqb (previous m d n) 0) (eqb (start m d n) (source_start m d n) && eqb (source_link m d n) n) (eqb (next m d (previous m d n)) n)
      && cond (eqb (next m d n) 0) (eqb (end m d n) (source_end m d n)) (next_test d n)

  -- ---- all of them

  unfoldable pub slot_test : ℕ → ℕ → Bool
  slot_test d n =
      cond (eqb (used m d n) 0) (all (λ f. eqb (field m d n f) 0) (from slot_words 0))
      (form_test d n && use_test d n && source_test d n && pieces_test d n)

  unfoldable pub partition_test : ℕ → Bool
  partition_test d =
      descriptor_test d && entries_test d && structures_test d && all (λ n. eqb (structure m d (n / 8)) 0 || slot_test d n) numbers

  unfoldable pub sound_test : Bool
  sound_test =
      header_test && is_partition m (root m)
      && all (λ j. eqb (word m (header_words + j)) 0 || (eqb (word m (header_words + j) / 32) j && partition_test (word m (header_words + j))))
      (from (table_words (length m)) 0)
