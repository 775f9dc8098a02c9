-- What a caller reads of a call's packed answer, on memory of 32-bit words: the refusal above, the word below. Assumes nothing.
use mathlib.Core.Path.{◌≡◌}
use mathlib.Core.List.{List}
use mathlib.Core.Bool.{cond}
use Prim.Native.Nat.{ℕ, ◌/◌, ◌%◌, ◌^◌, ◌<◌}
use native.Mathlib.Omega.{arith}
use lib.Dec.{eqb}
use lib.ListN.{get_or}
use Rattle.memory.specs.Geometry.{page_of, table_index}
use Rattle.memory.specs.Words.{index}
use Rattle.memory.specs.Edition.{width}
use Rattle.memory.specs.Partition.{table_at, table_word}
use Rattle.rules.specs.Call.{Call, format_all, create_partition, delete_partition, add_vaddr, remove_vaddr, page_count}
use Rattle.rules.specs.Call.{prepare, collect, mapped_in_child, enter, leave, load, store, notify, dispatch, resume}
use Rattle.rules.specs.Conditions.{child, no_three}
use Rattle.rules.specs.Calls as C
use Rattle.rules.specs.Calls.{result}
use Rattle.rules.specs.Editions.{answer}
use Rattle.rules.specs.Refusals.{refusal}
use Rattle.answers.specs.Packed.{packed}
use Rattle.common.proofs.Packing.{cond_below, upper_reply, lower-reply}

module _ (b k : ℕ) (m : List ℕ) (room : 3 < k) (small : (i : ℕ) → get_or m i 0 < k) where
  none : 0 < k
  none = omega arith

  table-word-below : (root v : ℕ) → table_word b m root v < k
  unfolding table_word
  table-word-below root v = cond_below (eqb (table_at b m root v) 0) none (small (index b (page_of b (table_at b m root v)) (table_index b v)))

  -- a call answers 0, 3 or a word of the memory
  pub result-below : (c : Call) → result b m c < k
  unfolding result
  result-below (format_all e) = none
  result-below (create_partition p d s t l) = none
  result-below (delete_partition c) = none
  result-below (add_vaddr p c t r) = none
  result-below (remove_vaddr c t) = table-word-below _ _
  result-below (page_count c t) = cond_below (no_three b m (child b m c) t) room none
  result-below (prepare c t p) = none
  result-below (collect c t) = small _
  result-below (mapped_in_child p) = table-word-below _ _
  result-below (enter c) = none
  result-below leave = none
  result-below (load a) = small _
  result-below (store a x) = none
  result-below (notify t e f r) = none
  result-below (dispatch t) = none
  result-below (resume t s) = none

module _ (m : List ℕ) (words : (i : ℕ) → get_or m i 0 < 2 ^ 32) (c : Call) where
  pub upper_half : packed (answer m c) / 2 ^ 32 ≡ refusal (width m) m c
  unfolding answer C.answer
  upper_half = upper_reply (refusal (width m) m c) (result (width m) m c) (result-below (width m) (2 ^ 32) m (omega arith) words c)

  pub lower_half : packed (answer m c) % 2 ^ 32 ≡ cond (eqb (refusal (width m) m c) 0) (result (width m) m c) 0
  unfolding answer C.answer
  lower_half = lower-reply (refusal (width m) m c) (result (width m) m c) (result-below (width m) (2 ^ 32) m (omega arith) words c)
