-- The cases that document 01 marks P, and those of document 02, L4, as one table: what the rules give, and what is written. Assumes nothing.
use Rattle.std.specs.Prelude.{List, [], ◌∷◌, ℕ, ◌-◌, ◌*◌, ◌^◌, replicate}
use Rattle.common.specs.Expected.{Row, ◌is◌}
use Rattle.memory.specs.Geometry.{width_of, page_words, page_bytes, most_pages, threes_for, flat_pages}
use Rattle.memory.specs.Words.{word}
use Rattle.memory.specs.Format.{format}
use Rattle.memory.specs.Partition.{mapping}
use Rattle.rules.specs.Refusal.{ADDRESS}
use Rattle.rules.specs.Row.{first, ◌when◌}
use Rattle.rules.specs.Call.{Call, format_all, create_partition, page_count, store, prepare, add_vaddr}
use Rattle.rules.specs.Conditions.{bad_page}
use Rattle.rules.specs.Refusals.{refusal}
use Rattle.rules.specs.Editions.{run}

-- create over the first five pages, and the first six records of "A bench morning"; every page address times k, 1 or, in the new edition, 16
unfoldable pub create_five : ℕ → Call
create_five k = create_partition (k * 256) (k * 512) (k * 768) (k * 1024) (k * 1280)

unfoldable pub six_records : ℕ → List Call
six_records k =
    create_five k ∷ page_count (k * 256) (k * 4096) ∷ store (k * 1536) (k * 1792) ∷ store (k * 1792) (k * 2048) ∷ prepare (k * 256) (k * 4096) (k * 1536)
    ∷ add_vaddr (k * 2304) (k * 256) (k * 4096) 3 ∷ []

-- Over two functions that are defined below the rows, so that proofs/Cases.antt can put equal ones in their place, which take less time to compute:
-- what format answers (edition, number of words), and the memory after format and calls (edition, number of pages, calls)
module _ (formatting : ℕ → ℕ → ℕ) (reached : ℕ → ℕ → List Call → List ℕ) where
  -- the root's descriptor is page 1; in the morning the child's is root page 1, page 9
  unfoldable pub rows : List Row
  rows =
      threes_for 6 16 is 1 ∷ flat_pages 6 16 is 7
      ∷ threes_for 6 72 is 1 ∷ flat_pages 6 72 is 63
      ∷ threes_for 6 73 is 2 ∷ flat_pages 6 73 is 61
      ∷ threes_for 6 256 is 4 ∷ flat_pages 6 256 is 238
      ∷ formatting 0 (15 * 64) is 2
      ∷ formatting 0 (257 * 64) is 2
      ∷ mapping 6 (format 6 16) 1 256 is 2335
      ∷ mapping 6 (reached 0 16 (create_five 1 ∷ [])) 1 256 is 2333
      ∷ word 6 (format 6 16) 0 3 is 2304
      ∷ mapping 6 (reached 0 20 (six_records 1)) 9 4096 is 4367
      ∷ first (ADDRESS when bad_page 6 (2 ^ 20 - 256) ∷ []) is 0
      ∷ first (ADDRESS when bad_page 6 (2 ^ 20) ∷ []) is 3
      -- document 02, L4; at 16,384 words either choice fits
      ∷ page_words 10 is 1024 ∷ page_bytes 10 is 4096 ∷ most_pages 10 is 4096
      ∷ threes_for 10 16 is 1 ∷ flat_pages 10 16 is 7
      ∷ threes_for 10 1032 is 1 ∷ flat_pages 10 1032 is 1023
      ∷ threes_for 10 1033 is 2 ∷ flat_pages 10 1033 is 1021
      ∷ threes_for 10 2059 is 2 ∷ flat_pages 10 2059 is 2047
      ∷ threes_for 10 2060 is 3 ∷ flat_pages 10 2060 is 2045
      ∷ threes_for 10 3086 is 3 ∷ flat_pages 10 3086 is 3071
      ∷ threes_for 10 3087 is 4 ∷ flat_pages 10 3087 is 3069
      ∷ threes_for 10 4096 is 4 ∷ flat_pages 10 4096 is 4078
      ∷ formatting 1 (15 * 1024) is 2
      ∷ formatting 1 (4097 * 1024) is 2
      ∷ formatting 1 (16 * 64) is 2
      ∷ formatting 0 16384 is 0 ∷ formatting 1 16384 is 0 ∷ formatting 2 16384 is 2
      ∷ word 6 (format 6 16) 0 5 is 0 ∷ word 10 (format 10 16) 0 5 is 1
      ∷ word 10 (format 10 16) 0 2 is 4096 ∷ word 10 (format 10 16) 0 3 is 36864
      ∷ mapping 10 (format 10 16) 1 4096 is 36895
      ∷ mapping 10 (reached 1 16 (create_five 16 ∷ [])) 1 4096 is 36893
      ∷ mapping 10 (reached 1 20 (six_records 16)) 9 65536 is 69647
      ∷ first (ADDRESS when bad_page 10 256 ∷ []) is 3
      ∷ first (ADDRESS when bad_page 10 4096 ∷ []) is 0
      ∷ first (ADDRESS when bad_page 10 4352 ∷ []) is 3
      ∷ first (ADDRESS when bad_page 10 (2 ^ 32 - 4096) ∷ []) is 0
      ∷ []

-- 0, or the refusal of format for edition e on n words, of which it reads none
unfoldable pub formatting : ℕ → ℕ → ℕ
formatting e n = refusal 6 (replicate n 0) (format_all e)

unfoldable pub reached : ℕ → ℕ → List Call → List ℕ
reached e n cs = run (format (width_of e) n) cs

unfoldable pub table : List Row
table = rows formatting reached
