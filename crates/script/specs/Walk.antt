-- A script, record by record. Assumes nothing.
use Rattle.std.specs.Prelude.{List, Bool, true, false, ◌&&◌, ℕ, ◌+◌, ◌*◌, leb, length}
use Rattle.std.proofs.Math.Option.{Option, none, some}
use Rattle.memory.specs.Geometry.{least_pages, most_pages}
use Rattle.rules.specs.Bytes.{word_in}
use Rattle.rules.specs.Call.{Call}
use Rattle.rules.specs.Replay.{most_input, header_bytes, argument_count, known_call, call_of}

-- whether there is a script: what is none prints only `bad script`
unfoldable pub is_script : Option (List Call) → Bool
is_script none = false
is_script (some cs) = true

-- not "A short header, bad offset, bad N, .. or longer input"
unfoldable pub good_header : ℕ → List ℕ → Bool
good_header b bs =
    leb header_bytes (length bs) && leb (length bs) most_input && leb header_bytes (word_in bs 8) && leb (word_in bs 8) (length bs)
    && leb least_pages (word_in bs 0) && leb (word_in bs 0) (most_pages b)

module _ (bs : List ℕ) where
  -- the byte behind the record that starts at byte i
  abbrev pub next_record : ℕ → ℕ
  next_record i = i + 4 + 4 * argument_count (word_in bs i)

  -- no "unknown call, cut record"
  unfoldable pub whole_record : ℕ → Bool
  whole_record i = known_call (word_in bs i) && leb (next_record i) (length bs)

  abbrev pub argument_at : ℕ → ℕ → ℕ
  argument_at i j = word_in bs (i + 4 + 4 * j)

  -- the call of the record that starts at byte i
  abbrev pub call_at : ℕ → Call
  call_at i = call_of (word_in bs i) (argument_at i)
