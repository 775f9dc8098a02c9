-- `script::header::good_header` meets its contract. Each test that the code makes is one of the definition. Assumes nothing.
use mathlib.Core.Path.{sym, ap, ◌∙◌}
use Prim.Native.Nat.{ℕ, ◌*◌}
use native.Mathlib.Omega.{arith}
use lib.Dec.{leb}
use Rattle.rules.specs.Bytes.{word_in}
use Rattle.script.proofs.Heads.{too_short, too_long, too_early, too_late, too_few, by_most}
use Rattle.script.proofs.header.good_header.Goals as goal

pub returns-then-bytes-lt12 : goal.returns-then-bytes-lt12
returns-then-bytes-lt12 c =
    let s = c.args in
    sym (too_short s.b.bits s.bytes.now (omega arith))

pub returns-then-bytes-gt4096 : goal.returns-then-bytes-gt4096
returns-then-bytes-gt4096 c =
    let s = c.args in
    sym (too_long s.b.bits s.bytes.now (omega arith) (omega arith))

pub returns-then-first-lt12 : goal.returns-then-first-lt12
returns-then-first-lt12 c =
    let s = c.args in
    sym (too_early s.b.bits s.bytes.now (omega arith) (omega arith) (omega arith))

pub returns-then-first-bytes : goal.returns-then-first-bytes
returns-then-first-bytes c =
    let s = c.args in
    sym (too_late s.b.bits s.bytes.now (omega arith) (omega arith) (omega arith) (omega arith))

pub returns-then-n-lt16 : goal.returns-then-n-lt16
returns-then-n-lt16 c =
    let s = c.args in
    sym (too_few s.b.bits s.bytes.now (omega arith) (omega arith) (omega arith) (omega arith) (omega arith))

pub returns : goal.returns
returns c =
    let s = c.args in
    ap (λ (x : ℕ). leb x (4 * c.page_words.result)) c.word_in-n.ensures
    ∙ ap (λ (y : ℕ). leb (word_in s.bytes.now 0) (4 * y)) c.page_words.ensures.0
    ∙ sym (by_most s.b.bits s.bytes.now (omega arith) (omega arith) (omega arith) (omega arith) (omega arith))
