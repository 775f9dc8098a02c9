-- The start-up record: "76 bytes, little-endian: magic 0xDEADCAFE (bytes FE CA AD DE), begin, end, 64 revision bytes." Assumes nothing.
use Rattle.std.specs.Prelude.{List, [], ◌∷◌, ◌++◌, Bool, cond, not, ◌&&◌, ◌||◌, ℕ, ◌+◌, ltb, eqb, length, get_or, take, drop}
use Rattle.memory.specs.Geometry.{page_bytes, address, flat_pages}
use Rattle.memory.specs.Words.{overwrite}
use Rattle.memory.specs.Partition.{pages}
use Rattle.rules.specs.Bytes.{little_endian, word_in}
use Rattle.rules.specs.Refusal.{DAMAGED, SHORT, MAGIC}
use Rattle.rules.specs.Row.{Check, ◌when◌, first, Answer, reply, pass}
use Rattle.rules.specs.Conditions.{damaged}

abbrev pub record_length : ℕ
record_length = 76

abbrev pub revision_length : ℕ
revision_length = 64

-- "bytes FE CA AD DE"
abbrev pub magic : List ℕ
magic = 254 ∷ 202 ∷ 173 ∷ 222 ∷ []

-- ---- the writer: "takes sound memory, 64 or more revision bytes (the first 64 count) and a buffer of 76 or more; bytes past 76 stay"

module _ (b : ℕ) (m revision : List ℕ) where
  -- "Begin is 256, end 256(F+1)."
  abbrev pub record_bytes : List ℕ
  record_bytes = magic ++ little_endian (page_bytes b) ++ little_endian (address b (flat_pages b (pages b m) + 1)) ++ take revision_length revision

  -- "Refusals 1, 17."
  unfoldable pub writer_refusals : List ℕ → List Check
  writer_refusals out = DAMAGED when damaged b m ∷ SHORT when (ltb (length revision) revision_length || ltb (length out) record_length) ∷ []

  unfoldable pub writer_answer : List ℕ → Answer
  writer_answer out = reply (first (writer_refusals out)) 0

  unfoldable pub after_writer : List ℕ → List ℕ
  after_writer out = pass (first (writer_refusals out)) (overwrite out 0 record_bytes) out

-- ---- the reader: "needs 76 bytes (17, then 18) and ignores more; it answers begin and end, both 0 when it refuses, and, by a call of its own, hands
-- back the revision as a part of the caller's bytes, an empty part exactly when it refuses"

abbrev pub has_magic : List ℕ → Bool
has_magic bs = eqb (get_or bs 0 0) 254 && eqb (get_or bs 1 0) 202 && eqb (get_or bs 2 0) 173 && eqb (get_or bs 3 0) 222

-- 18: "record's magic wrong, or begin above end"
unfoldable pub reader_refusals : List ℕ → List Check
reader_refusals bs = SHORT when ltb (length bs) record_length ∷ MAGIC when (not (has_magic bs) || ltb (word_in bs 8) (word_in bs 4)) ∷ []

abbrev pub reader_refusal : List ℕ → ℕ
reader_refusal bs = first (reader_refusals bs)

unfoldable pub record_begin : List ℕ → ℕ
record_begin bs = cond (eqb (reader_refusal bs) 0) (word_in bs 4) 0

unfoldable pub record_end : List ℕ → ℕ
record_end bs = cond (eqb (reader_refusal bs) 0) (word_in bs 8) 0

unfoldable pub revision_of : List ℕ → List ℕ
revision_of bs = cond (eqb (reader_refusal bs) 0) (take revision_length (drop 12 bs)) []
