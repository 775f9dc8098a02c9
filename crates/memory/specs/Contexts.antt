-- Saved contexts (document 02, L8; document 000): where a partition's four slots stand, and their words. Assumes nothing.
use Rattle.std.specs.Prelude.{List, Bool, cond, not, ◌&&◌, ℕ, ◌+◌, ◌-◌, ◌*◌, eqb}
use Rattle.memory.specs.Geometry.{page_bytes, address_end, address, page_of, flat_pages}
use Rattle.memory.specs.Words.{tabulate, index, word, put, overwrite}
use Rattle.memory.specs.Entry.{read_right, write_right, holds}
use Rattle.memory.specs.Partition.{pages, mapping, in_hand}

-- "four 64-byte slots: eip, pipflags, eflags, eight registers, valid (1; else none), then padding that stays": 000 numbers them 0 to 3
abbrev pub most_slot : ℕ
most_slot = 3

abbrev pub slot_words : ℕ
slot_words = 16

-- the words that are saved: eip, pipflags, eflags, eight registers
abbrev pub saved_words : ℕ
saved_words = 11

-- where pipflags and valid stand in a slot
abbrev pub pipflags_place : ℕ
pipflags_place = 1

abbrev pub valid_place : ℕ
valid_place = 11

-- 000: "2: NOTIF_CHILD_CTX: The partition called notify on a child", "3: NOTIF_PARENT_CTX: The partition called notify on its parent"
abbrev pub to_child_slot : ℕ
to_child_slot = 2

abbrev pub to_parent_slot : ℕ
to_parent_slot = 3

module _ (b : ℕ) (m : List ℕ) where
  -- "Each partition's page at address 0xFFF00, and for the root its last flat page at 256F": the last virtual page, and the root's last one
  unfoldable pub slots_at : ℕ → ℕ
  slots_at d = cond (eqb d 1) (address b (flat_pages b (pages b m))) (address_end b - page_bytes b)

  -- its word in d's page table, and the page
  abbrev pub slots_entry : ℕ → ℕ
  slots_entry d = mapping b m d (slots_at d)

  abbrev pub slot_page : ℕ → ℕ
  slot_page d = page_of b (slots_entry d)

  -- 20: "the slot page .. isn't in its owner's hand with read and write"
  abbrev pub no_slots : ℕ → Bool
  no_slots d = not (in_hand b m d (slots_at d) && holds (read_right + write_right) (slots_entry d))

  -- word k of d's slot s
  abbrev pub slot_word : ℕ → ℕ → ℕ → ℕ
  slot_word d s k = word b m (slot_page d) (slot_words * s + k)

  -- "valid (1; else none)"
  abbrev pub valid : ℕ → ℕ → Bool
  valid d s = eqb (slot_word d s valid_place) 1

  -- the saved words of d's slot s
  abbrev pub saved_in : ℕ → ℕ → List ℕ
  saved_in d s = tabulate 0 saved_words (slot_word d s)

  -- words written into d's slot s, from its first; and valid cleared
  abbrev pub save_in : ℕ → ℕ → List ℕ → List ℕ
  save_in d s ws = overwrite m (index b (slot_page d) (slot_words * s)) ws

  abbrev pub clear_valid : ℕ → ℕ → List ℕ
  clear_valid d s = put b m (slot_page d) (slot_words * s + valid_place) 0
