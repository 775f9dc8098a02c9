-- `script::header::well_formed` meets its contract. By the header, then by the records. Assumes nothing.
use mathlib.Core.Bool.{not}
use mathlib.Core.Path.{sym, ap, ◌∙◌}
use Prim.Native.Nat.{ℕ}
use native.Mathlib.Omega.{arith}
use borrow.Author.Tests.{not-true, not-false}
use Rattle.rules.specs.Replay.{records}
use Rattle.rules.specs.Bytes.{word_in}
use Rattle.script.specs.Walk.{is_script}
use Rattle.script.proofs.Heads.{header?, no_header, by_records}
use Rattle.script.proofs.header.well_formed.Goals as goal

pub returns-then-not-good_header : goal.returns-then-not-good_header
returns-then-not-good_header c =
    let s = c.args in
    sym (no_header s.b.bits s.bytes.now (sym c.good_header.ensures ∙ not-true _ (ap not c.if-not-good_header.true)))

pub word_in-requires : goal.word_in-requires
word_in-requires c =
    let s = c.args in
    omega (arith, (header? s.b.bits s.bytes.now).0 (sym c.good_header.ensures ∙ not-false _ (ap not c.if-not-good_header.false)))

pub word_in-requires-2 : goal.word_in-requires-2
word_in-requires-2 c =
    let s = c.args in
    omega (arith, (header? s.b.bits s.bytes.now).0 (sym c.good_header.ensures ∙ not-false _ (ap not c.if-not-good_header.false)))

pub all_records-requires : goal.all_records-requires
all_records-requires c =
    let s = c.args in
    omega (arith, (header? s.b.bits s.bytes.now).0 (sym c.good_header.ensures ∙ not-false _ (ap not c.if-not-good_header.false)))

pub returns : goal.returns
returns c =
    let s = c.args in
    c.all_records.ensures
    ∙ ap (λ (n : ℕ). is_script (records n s.bytes.now c.word_in-2.result)) c.word_in.ensures
    ∙ ap (λ (i : ℕ). is_script (records (word_in s.bytes.now 4) s.bytes.now i)) c.word_in-2.ensures
    ∙ sym (by_records s.b.bits s.bytes.now (sym c.good_header.ensures ∙ not-false _ (ap not c.if-not-good_header.false)))
