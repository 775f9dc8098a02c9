-- The geometry, from one number: the index width b. Document 01 is b = 6, the old edition. Assumes nothing.
use Rattle.std.specs.Prelude.{List, [], ◌∷◌, cond, ℕ, ◌+◌, ◌-◌, ◌*◌, ◌/◌, ◌%◌, ◌^◌, eqb, get_or}

-- document 02, L4: "Geometry widths stand in a constant table by edition": 0 is "the old edition", 1 "the 10/10/12 split"
abbrev pub widths : List ℕ
widths = 6 ∷ 10 ∷ []

abbrev pub width_of : ℕ → ℕ
width_of e = get_or widths e 0

module _ (b : ℕ) where
  -- the edition of the width b: any width but the old edition's is taken for the new one's
  unfoldable pub edition_of : ℕ
  edition_of = cond (eqb b (width_of 0)) 0 1

  -- document 02, L8: "The live vcli flag is .. 0 or 1", and on the other edition "word 12 stays 0": the most that it can be
  abbrev pub most_flag : ℕ
  most_flag = 1 - edition_of

  -- "A page is 64 words (256 bytes)."; L4: "4,096-byte pages of 1,024 words", and "Wherever 01 writes 256 or 64 for a page, the edition's size stands instead"
  abbrev pub page_words : ℕ
  page_words = 2 ^ b

  abbrev pub page_bytes : ℕ
  page_bytes = 4 * 2 ^ b

  -- "A virtual address has 20 bits"; L4: "32-bit addresses", "no 32-bit address is too large". The first number that is none
  abbrev pub address_end : ℕ
  address_end = 2 ^ (3 * b + 2)

  -- "A physical address is 256k." Virtual page k starts at the same multiple.
  abbrev pub address : ℕ → ℕ
  address k = k * page_bytes

  -- the page of an address; also of a table word or a directory word, whose flags stand below the page's size
  abbrev pub page_of : ℕ → ℕ
  page_of a = a / page_bytes

  -- "top 6 index the directory, next 6 the table, low 8 the place in the page": the first two of the virtual page k, the place of the address a
  abbrev pub directory_index : ℕ → ℕ
  directory_index k = k / page_words

  abbrev pub table_index : ℕ → ℕ
  table_index k = k % page_words

  abbrev pub place : ℕ → ℕ
  place a = a % page_bytes

  -- "N pages, 16 to 256"; L4: "N from 16 to 4,096"
  abbrev pub most_pages : ℕ
  most_pages = 4 * 2 ^ b

  -- "T is the smallest number with 67T ≥ N−5", "T is the smallest with 1027T ≥ N−5": the quotient, rounded up (threes_for-enough and threes_for-least of
  -- proofs/Geometry.antt)
  abbrev pub threes_for : ℕ → ℕ
  threes_for n = (n - 5 + (2 ^ b + 2)) / (2 ^ b + 3)

  -- "F = N−6−3T"
  abbrev pub flat_pages : ℕ → ℕ
  flat_pages n = n - 6 - 3 * threes_for n

abbrev pub least_pages : ℕ
least_pages = 16

-- "A partition has at most 10 threes."; L4: "a list page still takes 10 threes"
abbrev pub most_threes : ℕ
most_threes = 10

-- "The tree is at most 8 below the root"
abbrev pub most_depth : ℕ
most_depth = 8
