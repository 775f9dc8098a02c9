-- The geometry, from the number of words W. Assumes nothing.
use Rattle.std.specs.Prelude.{Bool, ◌&&◌, ℕ, ◌+◌, ◌-◌, ◌*◌, ◌/◌, leb, eqb}

-- "W = 256K with K from 16 to 64": the words of a KiB, the fewest KiB and the most
abbrev pub kib : ℕ
kib = 256

abbrev pub least_kib : ℕ
least_kib = 16

abbrev pub most_kib : ℕ
most_kib = 64

unfoldable pub permitted : ℕ → Bool
permitted w = eqb (w / kib * kib) w && leb least_kib (w / kib) && leb (w / kib) most_kib

-- "Header, words 0 to 7"; "Table, words 8 to D−1"; a table word for each 32 words of memory
abbrev pub header_words : ℕ
header_words = 8

abbrev pub table_words : ℕ → ℕ
table_words w = w / 32

-- "word 8+j is 0 or the index d of a descriptor with d div 32 = j": where the word for d stands
abbrev pub table_index : ℕ → ℕ
table_index d = header_words + d / 32

-- "a descriptor, 32 words (128 bytes), and up to 16 structures, 74 words (296 bytes) each"; "eight slots of nine words"
abbrev pub descriptor_words : ℕ
descriptor_words = 32

abbrev pub structure_words : ℕ
structure_words = 74

abbrev pub slot_words : ℕ
slot_words = 9

abbrev pub most_structures : ℕ
most_structures = 16

abbrev pub most_enabled : ℕ
most_enabled = 8

-- "index of the root's descriptor, D = 8 + W/32"; "its first structure at D+32"
abbrev pub root_of : ℕ → ℕ
root_of w = header_words + table_words w

-- "first byte of the starting block, 456 + W/8": the kernel's own part is that of the header, the table, the root's descriptor and its first structure
abbrev pub first_byte : ℕ → ℕ
first_byte w = 4 * (root_of w + descriptor_words + structure_words)

-- "F = 4W − 456 − W/8"
abbrev pub flat_bytes : ℕ → ℕ
flat_bytes w = 4 * w - first_byte w

-- "A block has 32 bytes at least"
abbrev pub least_bytes : ℕ
least_bytes = 32

-- "read 1, write 2, execute 4"
abbrev pub all_rights : ℕ
all_rights = 7

-- "Numbers run from 8 to 135": the first, and how many
abbrev pub first_number : ℕ
first_number = 8

abbrev pub most_numbers : ℕ
most_numbers = 128

-- "A record stands in a block from the block's first whole word on, index (start + 3) div 4"
abbrev pub word_from : ℕ → ℕ
word_from x = (x + 3) / 4
