-- What is answered, and what is handed back. Assumes nothing.
use mathlib.Core.Path.{◌≡◌, refl, sym, ap, ◌∙◌}
use mathlib.Core.List.{List}
use Prim.Native.Nat.{ℕ, ◌≤◌, ◌<◌}
use native.Mathlib.Omega.{arith}
use lib.ListN.{length, take}
use lib.Seq.{length-take-le}
use borrow.Author.Tests.{lt-ltb, le-ltb}
use Rattle.memory.specs.Words.{overwrite}
use Rattle.script.specs.Lines.{Put}
use Rattle.script.proofs.Puts.{take-over}
use Rattle.std.specs.Prelude as Prelude
use Rattle.std.specs.Prelude.{Ok, Err}
use Rattle.std.proofs.lemmas.Result.{err_from_is_err_and}
use Rattle.text.specs.Text.{lines}
use Rattle.assembly.specs.Assembled.{Result, written, begin, assembled}
use Rattle.assembly.specs.Told.{told, size, script_of}
use Rattle.assembly.specs.declared.Unassembled.{Unassembled}
use Rattle.assembly.specs.declared.Unassembled.TheVariants.{Unread, TooLong}
use Rattle.assembly.proofs.Records.{overwrite_nil}

abbrev pub Assembled : Type 0
Assembled = Prelude.Result ℕ Unassembled

-- what is answered of a text, and what the buffer is then
abbrev pub Answered : List ℕ → List ℕ → List ℕ → Assembled → Type 0
Answered text out after a = (told a after ≡ assembled text) × (after ≡ overwrite out 0 (script_of (assembled text))) × (size a ≤ length after)

pub long : (text out : List ℕ) → 65536 < length text → Answered text out out (Err TooLong)
unfolding assembled
long text out h = rw (lt-ltb 65536 (length text) h) (refl, overwrite_nil out 0, omega arith)

short : (text : List ℕ) → length text ≤ 65536 → begin 1 (lines text) ≡ assembled text
unfolding assembled
short text h = rw (le-ltb 65536 (length text) h) refl

-- y is what is returned where reading the text gave e
pub refused : (text out bytes : List ℕ) (y : Assembled) (e : Unassembled) → Prelude.IsErrAnd y (λ z. z ≡ e) → length text ≤ 65536
    → told (Err e) bytes ≡ begin 1 (lines text) → Answered text out out y
refused text out bytes y e given h is = let p = err_from_is_err_and y given in rw (p.1, p.2) (each e (is ∙ short text h))
  where
    each : (d : Unassembled) → told (Err d) bytes ≡ assembled text → Answered text out out (Err d)
    each (Unread k why) f = (f, overwrite_nil out 0 ∙ ap (λ (r : Result). overwrite out 0 (script_of r)) f, omega arith)
    each TooLong f = (f, overwrite_nil out 0 ∙ ap (λ (r : Result). overwrite out 0 (script_of r)) f, omega arith)

-- the script's n bytes stand at the start of what is handed back
pub answered : (text out bytes after : List ℕ) (j n : ℕ) → length text ≤ 65536 → length bytes ≡ length out → written (take n bytes) ≡ begin 1 (lines text)
    → n ≤ 4096 → 4096 ≡ length out → Put out after 0 j (take n bytes) → length after ≡ length out → Answered text out after (Ok n)
answered text out bytes after j n h k e l m p s =
    let whole : written (take n bytes) ≡ assembled text = e ∙ short text h in
    let size : length (take n bytes) ≡ n = length-take-le n bytes (omega arith) in
    let same : take n after ≡ take n bytes =
    ap (λ (l : List ℕ). take n l) p.bytes
    ∙ ap (λ (i : ℕ). take i (overwrite out 0 (take n bytes))) (sym size)
    ∙ take-over out (take n bytes) (omega arith) in
    (ap written same ∙ whole, p.bytes ∙ ap (λ (r : Result). overwrite out 0 (script_of r)) whole, omega arith)
