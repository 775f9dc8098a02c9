-- The fifteen answers of "A bench morning" from the rules alone, in both editions. Assumes nothing.
use Rattle.std.specs.Prelude.{List, [], ◌∷◌, ◌++◌, Bool, ℕ, ◌+◌, ◌*◌}
use Rattle.std.proofs.Math.Option.{Option, none, some}
use Rattle.common.specs.Expected.{same}
use Rattle.memory.specs.Geometry.{width_of}
use Rattle.memory.specs.Format.{format}
use Rattle.rules.specs.Row.{Answer, ok, no}
use Rattle.rules.specs.Bytes.{little_endian}
use Rattle.rules.specs.Call.{Call}
use Rattle.rules.specs.Replay.{script}
use Rattle.rules.specs.Editions.{answers}

-- N, record count, offset; then each record's number and arguments. Every page address is times k, 1 or, in the new edition, 16; byte 4 of a page
-- stays byte 4
unfoldable pub script_words : ℕ → List ℕ
script_words k =
    20 ∷ 15 ∷ 12 ∷ 1 ∷ k * 256 ∷ k * 512 ∷ k * 768 ∷ k * 1024 ∷ k * 1280 ∷ 5 ∷ k * 256 ∷ k * 4096 ∷ 12 ∷ k * 1536 ∷ k * 1792 ∷ 12 ∷ k * 1792 ∷ k * 2048
    ∷ 6 ∷ k * 256 ∷ k * 4096 ∷ k * 1536 ∷ 3 ∷ k * 2304 ∷ k * 256 ∷ k * 4096 ∷ 3 ∷ 8 ∷ k * 2304 ∷ 12 ∷ k * 256 ∷ 1 ∷ 9 ∷ k * 256
    ∷ 12 ∷ (k * 4096 + 4) ∷ 77 ∷ 10 ∷ 11 ∷ (k * 2304 + 4) ∷ 4 ∷ k * 256 ∷ k * 4096 ∷ 7 ∷ k * 256 ∷ k * 4096 ∷ 2 ∷ k * 256 ∷ []

unfoldable pub fifteen_answers : ℕ → List Answer
fifteen_answers k =
    ok 0 ∷ ok 3 ∷ ok 0 ∷ ok 0 ∷ ok 0 ∷ ok 0 ∷ ok (k * 256) ∷ no 16 ∷ ok 0 ∷ ok 0 ∷ ok 0 ∷ ok 77 ∷ ok (k * 2304) ∷ ok (k * 1536) ∷ ok 0 ∷ []

abbrev pub bytes_of : List ℕ → List ℕ
bytes_of [] = []
bytes_of (w ∷ ws) = little_endian w ++ bytes_of ws

-- the answers to a script's records on a fresh memory of n pages in edition e; none where it is a bad script
unfoldable pub answers_to : ℕ → ℕ → Option (List Call) → List Answer
answers_to e n none = []
answers_to e n (some cs) = answers (format (width_of e) n) cs

-- the morning in edition e, every page address times k
unfoldable pub morning : ℕ → ℕ → Bool
morning e k = same (answers_to e 20 (script (width_of e) (bytes_of (script_words k)))) (fifteen_answers k)
