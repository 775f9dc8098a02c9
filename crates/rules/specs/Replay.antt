-- Replay: from the bytes of a script to the bytes of its transcript. Assumes nothing.
use Rattle.std.specs.Prelude.{List, [], ◌∷◌, ◌++◌, Bool, cond, ◌&&◌, ℕ, zero, suc, ◌+◌, ◌-◌, ◌*◌, ◌/◌, ◌%◌, leb, ltb, eqb, length, get_or}
use Rattle.std.proofs.Math.Option.{Option, none, some}
use Rattle.memory.specs.Geometry.{flat_pages, least_pages, most_pages}
use Rattle.memory.specs.Format.{format}
use Rattle.rules.specs.Bytes.{word_in}
use Rattle.rules.specs.Row.{Answer, ok, no}
use Rattle.rules.specs.Call.{Call, create_partition, delete_partition, add_vaddr, remove_vaddr, page_count, prepare, collect, mapped_in_child, enter, leave, load, store}
use Rattle.rules.specs.Editions.{answers}

-- ---- the script

-- "Input, at most 4,096 bytes, little-endian words: N, record count, byte offset of the first record"
abbrev pub most_input : ℕ
most_input = 4096

abbrev pub header_bytes : ℕ
header_bytes = 12

-- "How many arguments each call has is a fixed table by number: 5, 1, 4, 2, 2, 3, 2, 1, 1, 0, 1, 2."
abbrev pub argument_counts : List ℕ
argument_counts = 5 ∷ 1 ∷ 4 ∷ 2 ∷ 2 ∷ 3 ∷ 2 ∷ 1 ∷ 1 ∷ 0 ∷ 1 ∷ 2 ∷ []

abbrev pub argument_count : ℕ → ℕ
argument_count n = get_or argument_counts (n - 1) 0

abbrev pub known_call : ℕ → Bool
known_call n = leb 1 n && leb n 12

-- the call of number n (1 to 12) with argument i at a i
unfoldable pub call_of : ℕ → (ℕ → ℕ) → Call
call_of n a =
    cond (eqb n 1) (create_partition (a 0) (a 1) (a 2) (a 3) (a 4))
    (cond (eqb n 2) (delete_partition (a 0))
    (cond (eqb n 3) (add_vaddr (a 0) (a 1) (a 2) (a 3))
    (cond (eqb n 4) (remove_vaddr (a 0) (a 1))
    (cond (eqb n 5) (page_count (a 0) (a 1))
    (cond (eqb n 6) (prepare (a 0) (a 1) (a 2))
    (cond (eqb n 7) (collect (a 0) (a 1))
    (cond (eqb n 8) (mapped_in_child (a 0))
    (cond (eqb n 9) (enter (a 0))
    (cond (eqb n 10) leave
    (cond (eqb n 11) (load (a 0))
    (store (a 0) (a 1))))))))))))

unfoldable pub push : Call → Option (List Call) → Option (List Call)
push c none = none
push c (some cs) = some (c ∷ cs)

-- "each record is a call number and its arguments": n records from byte i on, up to the end exactly; "unknown call, cut record, bytes left over" are none
unfoldable pub records : ℕ → List ℕ → ℕ → Option (List Call)
records zero bs i = cond (eqb i (length bs)) (some []) none
records (suc n) bs i =
    let number = word_in bs i in
    let end = i + 4 + 4 * argument_count number in
    let rest = push (call_of number (λ j. word_in bs (i + 4 + 4 * j))) (records n bs end) in
    cond (known_call number && leb end (length bs)) rest none

-- "(12 up to the length; bytes between are ignored)"; "A short header, bad offset, bad N, .. or longer input"
unfoldable pub script : ℕ → List ℕ → Option (List Call)
script b bs =
    let rest = records (word_in bs 4) bs (word_in bs 8) in
    cond (leb header_bytes (length bs) && leb (length bs) most_input && leb header_bytes (word_in bs 8) && leb (word_in bs 8) (length bs)
    && leb least_pages (word_in bs 0) && leb (word_in bs 0) (most_pages b)) rest none

-- ---- the transcript, in ASCII

-- a number's decimal digits; a 32-bit word has ten at most
unfoldable pub digits : ℕ → ℕ → List ℕ
digits zero n = []
digits (suc more) n = let front = digits more (n / 10) in cond (ltb n 10) ((48 + n) ∷ []) (front ++ ((48 + n % 10) ∷ []))

abbrev pub decimal : ℕ → List ℕ
decimal n = digits 10 n

-- the record's place, " ok " and the answer or " no " and the refusal's number, and a newline
unfoldable pub line : ℕ → Answer → List ℕ
line k (ok x) = decimal k ++ (32 ∷ 111 ∷ 107 ∷ 32 ∷ []) ++ decimal x ++ (10 ∷ [])
line k (no n) = decimal k ++ (32 ∷ 110 ∷ 111 ∷ 32 ∷ []) ++ decimal n ++ (10 ∷ [])

unfoldable pub lines : ℕ → List Answer → List ℕ
lines k [] = []
lines k (a ∷ more) = line k a ++ lines (suc k) more

-- "a line `N F`, then a line for each record"
unfoldable pub transcript : ℕ → ℕ → List Answer → List ℕ
transcript b n said = decimal n ++ (32 ∷ []) ++ decimal (flat_pages b n) ++ (10 ∷ []) ++ lines 1 said

-- "bad script" and a newline
abbrev pub bad_script : List ℕ
bad_script = 98 ∷ 97 ∷ 100 ∷ 32 ∷ 115 ∷ 99 ∷ 114 ∷ 105 ∷ 112 ∷ 116 ∷ 10 ∷ []

unfoldable pub replayed : ℕ → ℕ → Option (List Call) → List ℕ
replayed b n none = bad_script
replayed b n (some cs) = transcript b n (answers (format b n) cs)

unfoldable pub replay : ℕ → List ℕ → List ℕ
replay b bs = replayed b (word_in bs 0) (script b bs)
