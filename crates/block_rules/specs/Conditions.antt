-- The conditions under which a refusal is given, each with the words of "When the kernel says no". The partition d is the one whose pool is asked.
-- Assumes nothing.
use Rattle.std.specs.Prelude.{List, Bool, not, ◌&&◌, ◌||◌, ℕ, ◌+◌, ◌*◌, ltb, eqb, length}
use Rattle.std.specs.Int.Bits.{bit_and}
use Rattle.block_memory.specs.Geometry.{permitted, least_bytes}
use Rattle.block_memory.specs.Partition.{root, current, end, start, rights, used, child, link, next, place, free_number, free_structure, empty_structure, entry_of}
use Rattle.block_soundness.specs.Test.{sound_test}

module _ (m : List ℕ) where
  -- 1: "memory not sound" (sound_test decides Sound: the crate block_soundness, Whole.antt, sound?)
  abbrev pub damaged : Bool
  damaged = not (sound_test m)

  -- 2: "a child argument isn't the number of a block of the caller with use 3; a partition argument neither that nor 0"
  abbrev pub no_child : ℕ → ℕ → Bool
  no_child d c = not (eqb (used m d c) 3)

  abbrev pub no_partition : ℕ → ℕ → Bool
  no_partition d p = not (eqb p 0) && no_child d p

  -- 3: "the number names no block of the pool, or one that isn't in hand"
  abbrev pub not_in_hand : ℕ → ℕ → Bool
  not_in_hand d n = not (eqb (used m d n) 1)

  -- "Remove, first place: no block of the caller, or one not lent to that child; second place: its first piece isn't in the child's hand"
  abbrev pub not_lent_to : ℕ → ℕ → ℕ → Bool
  not_lent_to d c n = not (eqb (used m d n) 2) || not (eqb (child m d n) c)

  abbrev pub first_piece_not_in_hand : ℕ → ℕ → ℕ → Bool
  first_piece_not_in_hand d c n = not_in_hand (place m d c) (link m d n)

  -- 4: "rights has a bit that the block's rights have not, as every number above 7 has"
  abbrev pub adds_right : ℕ → ℕ → ℕ → Bool
  adds_right d n r = not (eqb (bit_and r (rights m d n)) r)

  -- 5: "address is outside the block or leaves less than 32 bytes below or above it"
  abbrev pub bad_cut : ℕ → ℕ → ℕ → Bool
  bad_cut d n x = ltb x (start m d n + least_bytes) || ltb (end m d n) (x + least_bytes)

  -- 6: "neither block is the other's next"
  abbrev pub apart : ℕ → ℕ → ℕ → Bool
  apart d n o = not (eqb (next m d n) o) && not (eqb (next m d o) n)

  -- 7: "the first piece doesn't end where the block ends"
  abbrev pub unmerged : ℕ → ℕ → ℕ → Bool
  unmerged d c n = not (eqb (end m (place m d c) (link m d n)) (end m d n))

  -- 8: "no free slot in the child (add), in the caller (cut)"
  abbrev pub no_slot : ℕ → Bool
  no_slot d = eqb (free_number m d) 0

  -- 9: "no room in the block for 32 words (create), 74 words (prepare), or the partition has 16 structures"
  abbrev pub no_room : ℕ → ℕ → ℕ → Bool
  no_room d n size = ltb (end m d n) (4 * (place m d n + size))

  abbrev pub all_structures : ℕ → Bool
  all_structures d = eqb (free_structure m d) 0

  -- 10: "on isn't 0, no entry is block and none is 0"
  abbrev pub all_entries : ℕ → ℕ → ℕ → Bool
  all_entries d n on = not (eqb on 0) && eqb (entry_of m d n) 0 && eqb (entry_of m d 0) 0

  -- 11: "no structure of the partition has eight free slots"
  abbrev pub none_empty : ℕ → Bool
  none_empty d = eqb (empty_structure m d) 0

  -- 12: "root leaves"
  abbrev pub at_root : Bool
  at_root = eqb (current m) (root m)

  -- 13: "format: length not permitted"
  abbrev pub wrong_length : Bool
  wrong_length = not (permitted (length m))
