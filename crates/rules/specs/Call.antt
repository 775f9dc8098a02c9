-- The calls, by document 01's names, with their arguments in its order. Assumes nothing.
use Rattle.std.proofs.Math.Option.{Option, none, some}
use Rattle.std.specs.Prelude.{List, [], ◌∷◌, ℕ}

-- document 000: "8 general purpose registers"
pub record Registers : Type 0 where
  pub r0 : ℕ
  pub r1 : ℕ
  pub r2 : ℕ
  pub r3 : ℕ
  pub r4 : ℕ
  pub r5 : ℕ
  pub r6 : ℕ
  pub r7 : ℕ

abbrev pub register_words : Registers → List ℕ
register_words r = r.r0 ∷ r.r1 ∷ r.r2 ∷ r.r3 ∷ r.r4 ∷ r.r5 ∷ r.r6 ∷ r.r7 ∷ []

pub data Call : Type 0 where
  -- "Format wipes all words .."; it has no number. Document 02, L4: "format takes the choice": the edition
  format_all : ℕ → Call
  -- 1: descriptor, directory, shadow 1, shadow 2, list
  create_partition : ℕ → ℕ → ℕ → ℕ → ℕ → Call
  -- 2: child
  delete_partition : ℕ → Call
  -- 3: page, child, target, rights
  add_vaddr : ℕ → ℕ → ℕ → ℕ → Call
  -- 4: child, target
  remove_vaddr : ℕ → ℕ → Call
  -- 5: child, target
  page_count : ℕ → ℕ → Call
  -- 6: child, target, first page
  prepare : ℕ → ℕ → ℕ → Call
  -- 7: child, target
  collect : ℕ → ℕ → Call
  -- 8: page
  mapped_in_child : ℕ → Call
  -- 9: child
  enter : ℕ → Call
  -- 10
  leave : Call
  -- 11: address
  load : ℕ → Call
  -- 12: address, word
  store : ℕ → ℕ → Call
  -- document 02, L8: "notify, dispatch and resume between a partition and its child, or its parent under address 0"; they have no number.
  -- target, eip, eflags, registers
  notify : ℕ → ℕ → ℕ → Registers → Call
  -- target
  dispatch : ℕ → Call
  -- target, slot
  resume : ℕ → ℕ → Call

-- the edition that a call chooses: format alone does
unfoldable pub choice : Call → Option ℕ
choice (format_all e) = some e
choice (create_partition p d s t l) = none
choice (delete_partition c) = none
choice (add_vaddr p c t r) = none
choice (remove_vaddr c t) = none
choice (page_count c t) = none
choice (prepare c t p) = none
choice (collect c t) = none
choice (mapped_in_child p) = none
choice (enter c) = none
choice leave = none
choice (load a) = none
choice (store a x) = none
choice (notify t e f r) = none
choice (dispatch t) = none
choice (resume t s) = none

-- the target and the slot that a call resumes: resume alone does
unfoldable pub resumption : Call → Option (ℕ × ℕ)
resumption (format_all e) = none
resumption (create_partition p d s t l) = none
resumption (delete_partition c) = none
resumption (add_vaddr p c t r) = none
resumption (remove_vaddr c t) = none
resumption (page_count c t) = none
resumption (prepare c t p) = none
resumption (collect c t) = none
resumption (mapped_in_child p) = none
resumption (enter c) = none
resumption leave = none
resumption (load a) = none
resumption (store a x) = none
resumption (notify t e f r) = none
resumption (dispatch t) = none
resumption (resume t s) = some (t, s)
