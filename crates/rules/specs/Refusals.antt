-- The table's last column: each call's refusals in order. "Each check runs over all its arguments before the next begins." Assumes nothing.
use Rattle.std.specs.Prelude.{List, [], ◌∷◌, ◌++◌, not, ℕ, leb}
use Rattle.walk.specs.Finite.{any}
use Rattle.memory.specs.Entry.{read_right, write_right, least_both}
use Rattle.memory.specs.Partition.{current, in_hand}
use Rattle.memory.specs.Contexts.{no_slots}
use Rattle.rules.specs.Refusal.{DAMAGED, SIZE, ADDRESS, TWICE, CHILD, RIGHTS, HAND, TABLE, TAKEN, LIST, FULL-TABLE, DEPTH, ROOT, UNMAPPED}
use Rattle.rules.specs.Refusal.{KERNEL, SLOT-PAGE, SLOT, EMPTY-SLOT}
use Rattle.rules.specs.Row.{Check, ◌when◌, first}
use Rattle.rules.specs.Call.{Call, format_all, create_partition, delete_partition, add_vaddr, remove_vaddr, page_count, prepare, collect, mapped_in_child}
use Rattle.rules.specs.Call.{enter, leave, load, store, notify, dispatch, resume}
use Rattle.rules.specs.Conditions.{twice, damaged, bad_address, bad_page, no_child, child, lacks, not_in_hand, no_three, unmapped, mapped, list_full}
use Rattle.rules.specs.Conditions.{any_mapping, too_deep, at_root, inaccessible, serves_child, chain, unfit, target, toward, bad_slot, empty_slot}

module _ (b : ℕ) where
  unfoldable pub refusals : List ℕ → Call → List Check
  -- 2: format reads no word, so the width b is of no account
  refusals m (format_all e) = SIZE when unfit e m ∷ []
  -- 1 3 4 7 6 13
  refusals m (create_partition p d s t l) =
      let five = p ∷ d ∷ s ∷ t ∷ l ∷ [] in
      DAMAGED when damaged b m ∷ ADDRESS when any (bad_page b) five ∷ TWICE when twice five ∷ HAND when any (not_in_hand b m) five
      ∷ RIGHTS when any (lacks b write_right m) five ∷ DEPTH when too_deep b m ∷ []
  -- 1 3 5
  refusals m (delete_partition c) = DAMAGED when damaged b m ∷ ADDRESS when bad_page b c ∷ CHILD when no_child b m c ∷ []
  -- 1 3 6 5 7 6 8 9. The first 6: "number above 7", and by document 02, L7, "rights 6 and 7 .. at the place where numbers above 7 are refused"
  refusals m (add_vaddr p c t r) =
      DAMAGED when damaged b m ∷ ADDRESS when any (bad_page b) (p ∷ c ∷ t ∷ []) ∷ RIGHTS when leb least_both r ∷ CHILD when no_child b m c
      ∷ HAND when not_in_hand b m p ∷ RIGHTS when lacks b r m p ∷ TABLE when no_three b m (child b m c) t ∷ TAKEN when mapped b m (child b m c) t ∷ []
  -- 1 3 5 8 15 7
  refusals m (remove_vaddr c t) =
      DAMAGED when damaged b m ∷ ADDRESS when any (bad_page b) (c ∷ t ∷ []) ∷ CHILD when no_child b m c ∷ TABLE when no_three b m (child b m c) t
      ∷ UNMAPPED when unmapped b m (child b m c) t ∷ HAND when not (in_hand b m (child b m c) t) ∷ []
  -- 1 3 5 10
  refusals m (page_count c t) =
      DAMAGED when damaged b m ∷ ADDRESS when any (bad_page b) (c ∷ t ∷ []) ∷ CHILD when no_child b m c ∷ LIST when list_full b m (child b m c) t ∷ []
  -- 1 3 5 9 10, then the chain
  refusals m (prepare c t p) =
      DAMAGED when damaged b m ∷ ADDRESS when any (bad_page b) (c ∷ t ∷ p ∷ []) ∷ CHILD when no_child b m c ∷ TAKEN when not (no_three b m (child b m c) t)
      ∷ LIST when list_full b m (child b m c) t ∷ chain b m p
  -- 1 3 5 8 12
  refusals m (collect c t) =
      DAMAGED when damaged b m ∷ ADDRESS when any (bad_page b) (c ∷ t ∷ []) ∷ CHILD when no_child b m c ∷ TABLE when no_three b m (child b m c) t
      ∷ FULL-TABLE when any_mapping b m (child b m c) t ∷ []
  -- 1 3 15, and by document 02, L2, "16, after 15"
  refusals m (mapped_in_child p) =
      DAMAGED when damaged b m ∷ ADDRESS when bad_page b p ∷ UNMAPPED when unmapped b m (current b m) p ∷ KERNEL when serves_child b m p ∷ []
  -- 1 3 5
  refusals m (enter c) = DAMAGED when damaged b m ∷ ADDRESS when bad_page b c ∷ CHILD when no_child b m c ∷ []
  -- 1 14
  refusals m leave = DAMAGED when damaged b m ∷ ROOT when at_root b m ∷ []
  -- 1 3 15 16 6
  refusals m (load a) =
      DAMAGED when damaged b m ∷ ADDRESS when bad_address b 4 a ∷ UNMAPPED when unmapped b m (current b m) a ∷ KERNEL when inaccessible b m a
      ∷ RIGHTS when lacks b read_right m a ∷ []
  -- 1 3 15 16 6
  refusals m (store a x) =
      DAMAGED when damaged b m ∷ ADDRESS when bad_address b 4 a ∷ UNMAPPED when unmapped b m (current b m) a ∷ KERNEL when inaccessible b m a
      ∷ RIGHTS when lacks b write_right m a ∷ []
  -- document 02, L8: "checked 1, 3, 5 or 14, 21, 20, 22", and 24 "right after 1"
  refusals m (notify t e f r) = toward b m t ++ (SLOT-PAGE when no_slots b m (current b m) ∷ [])
  refusals m (dispatch t) = toward b m t
  refusals m (resume t s) =
      toward b m t ++ (SLOT when bad_slot t s ∷ SLOT-PAGE when no_slots b m (target b m t) ∷ EMPTY-SLOT when empty_slot b m t s ∷ [])

  -- the number of the first refusal that applies, or 0
  abbrev pub refusal : List ℕ → Call → ℕ
  refusal m c = first (refusals m c)
