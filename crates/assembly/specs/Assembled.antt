-- From a text to a replay script, or to the first line that can't be read. Assumes nothing.
use Rattle.std.specs.Prelude.{List, [], ◌∷◌, ◌++◌, cond, ℕ, suc, ◌+◌, ltb, eqb, length}
use Rattle.rules.specs.Bytes.{little_endian}
use Rattle.rules.specs.Replay.{header_bytes}
use Rattle.text.specs.Text.{lines, words}
use Rattle.text.specs.Lines.{pages_of, record_of, calls_in, reason}

-- "The result is either a script .. or a line's number and a reason"; of a text that is too long it is neither
pub data Result : Type 0 where
  written : List ℕ → Result
  unread : ℕ → ℕ → Result
  too_long : Result

-- "Text is bytes, 65,536 at most."
abbrev pub most_text : ℕ
most_text = 65536

-- "N, count of calls, offset 12"
abbrev pub header : ℕ → ℕ → List ℕ
header n count = little_endian n ++ little_endian count ++ little_endian header_bytes

-- "Every further line that has words is a call": the lines from number k on, behind the records of the calls so far.
-- "The first line that can't be read decides."
unfoldable pub calls : ℕ → ℕ → ℕ → List ℕ → List (List ℕ) → Result
calls n k count records [] = written (header n count ++ records)
calls n k count records (l ∷ ls) =
    let why = reason (header_bytes + length records) (words l) in
    let more = calls n (suc k) (count + calls_in (words l)) (records ++ record_of (words l)) ls in
    cond (eqb why 0) more (unread k why)

-- "The first line that has words is N": the lines from number k on. Where none has words, k is the number of lines + 1.
unfoldable pub begin : ℕ → List (List ℕ) → Result
begin k [] = unread k 7
begin k (l ∷ ls) =
    let n = pages_of (words l) in
    let skipped = begin (suc k) ls in
    let more = calls n (suc k) 0 [] ls in
    cond (eqb (length (words l)) 0) skipped (cond (eqb n 0) (unread k 1) more)

-- "Lines are numbered from 1."
unfoldable pub assembled : List ℕ → Result
assembled text = cond (ltb most_text (length text)) too_long (begin 1 (lines text))
