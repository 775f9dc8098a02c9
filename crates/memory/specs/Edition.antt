-- The edition of a memory, by its header. Assumes nothing.
use Rattle.std.specs.Prelude.{List, cond, ℕ, ltb, length, get_or}
use Rattle.memory.specs.Geometry.{widths, width_of}

-- document 02, L4: "Page 0 word 5 is 0 for the old edition and 1 for this." Memory whose word 5 names no edition is read as of the old one; by that width,
-- as by any, it is not sound.
unfoldable pub edition : List ℕ → ℕ
edition m = cond (ltb (get_or m 5 0) (length widths)) (get_or m 5 0) 0

-- the index width by which its words are read
abbrev pub width : List ℕ → ℕ
width m = width_of (edition m)
