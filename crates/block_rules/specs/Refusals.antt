-- The table's last column: each call's refusals in order. "Each check runs over all its arguments before the next begins." Assumes nothing.
use Rattle.std.specs.Prelude.{List, [], ◌∷◌, ◌||◌, ℕ}
use Rattle.common.specs.Row.{◌when◌}
use Rattle.block_memory.specs.Geometry.{descriptor_words, structure_words}
use Rattle.block_memory.specs.Partition.{current, place, named}
use Rattle.block_rules.specs.Refusal.{DAMAGED, CHILD, BLOCK, RIGHTS, PIECE, APART, UNMERGED, SLOT, STRUCTURE, ENABLED, EMPTY, ROOT, LENGTH}
use Rattle.block_rules.specs.Row.{Check, first}
use Rattle.block_rules.specs.Call.{Service, Call, format_all, serve, create, delete, prepare, collect, add, remove, cut, merge, enable, read_enabled}
use Rattle.block_rules.specs.Call.{find, enter, leave}
use Rattle.block_rules.specs.Conditions.{damaged, no_child, no_partition, not_in_hand, not_lent_to, first_piece_not_in_hand, adds_right, bad_cut, apart, unmerged}
use Rattle.block_rules.specs.Conditions.{no_slot, no_room, all_structures, all_entries, none_empty, at_root, wrong_length}

module _ (m : List ℕ) where
  -- of a service for the caller d, on sound memory
  unfoldable pub refusals_of : ℕ → Service → List Check
  -- 3 9
  refusals_of d (create b) = BLOCK when not_in_hand m d b ∷ STRUCTURE when no_room m d b descriptor_words ∷ []
  -- 2
  refusals_of d (delete c) = CHILD when no_child m d c ∷ []
  -- 2 3 9
  refusals_of d (prepare p b) =
      CHILD when no_partition m d p ∷ BLOCK when not_in_hand m d b ∷ STRUCTURE when (no_room m d b structure_words || all_structures m (named m d p)) ∷ []
  -- 2 11
  refusals_of d (collect p) = CHILD when no_partition m d p ∷ EMPTY when none_empty m (named m d p) ∷ []
  -- 2 3 4 8
  refusals_of d (add c b r) =
      CHILD when no_child m d c ∷ BLOCK when not_in_hand m d b ∷ RIGHTS when adds_right m d b r ∷ SLOT when no_slot m (place m d c) ∷ []
  -- 2 3 7 3
  refusals_of d (remove c b) =
      CHILD when no_child m d c ∷ BLOCK when not_lent_to m d c b ∷ UNMERGED when unmerged m d c b ∷ BLOCK when first_piece_not_in_hand m d c b ∷ []
  -- 3 5 8
  refusals_of d (cut b x) = BLOCK when not_in_hand m d b ∷ PIECE when bad_cut m d b x ∷ SLOT when no_slot m d ∷ []
  -- 3 6
  refusals_of d (merge a b) = BLOCK when (not_in_hand m d a || not_in_hand m d b) ∷ APART when apart m d a b ∷ []
  -- 2 3 10
  refusals_of d (enable p b on) =
      CHILD when no_partition m d p ∷ BLOCK when not_in_hand m (named m d p) b ∷ ENABLED when all_entries m (named m d p) b on ∷ []
  -- 2
  refusals_of d (read_enabled p e) = CHILD when no_partition m d p ∷ []
  refusals_of d (find p x) = CHILD when no_partition m d p ∷ []
  refusals_of d (enter c) = CHILD when no_child m d c ∷ []
  -- 12
  refusals_of d leave = ROOT when at_root m ∷ []

  -- 13 of format; every service begins with 1
  unfoldable pub refusals : Call → List Check
  refusals format_all = LENGTH when wrong_length m ∷ []
  refusals (serve s) = DAMAGED when damaged m ∷ refusals_of (current m) s

  -- the number of the first refusal that applies, or 0
  abbrev pub refusal : Call → ℕ
  refusal c = first (refusals c)
