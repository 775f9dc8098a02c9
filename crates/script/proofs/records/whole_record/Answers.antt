-- `script::records::whole_record` meets its contract. Each test that the code makes is one of the definition. Assumes nothing.
use mathlib.Core.Bool.{not}
use mathlib.Core.Path.{sym, ap, ◌∙◌}
use Prim.Native.Nat.{ℕ, ◌-◌, ◌*◌}
use native.Mathlib.Omega.{arith}
use lib.Dec.{leb}
use lib.ListN.{length}
use borrow.Author.Tests.{not-true, not-false}
use Rattle.rules.specs.Replay.{argument_count, known_call}
use Rattle.script.proofs.Walks.{known?, cut, unknown, by_bytes-left}
use Rattle.script.proofs.records.whole_record.Goals as goal

pub returns-then-left-lt4 : goal.returns-then-left-lt4
returns-then-left-lt4 c =
    let s = c.args in
    sym (cut s.bytes.now s.i (omega arith))

pub returns-then-not-known_call : goal.returns-then-not-known_call
returns-then-not-known_call c =
    let s = c.args in
    sym (unknown s.bytes.now s.i (ap known_call (sym c.word_in-n.ensures) ∙ sym c.known_call.ensures ∙ not-true _ (ap not c.if-not-known_call.true)))

pub argument_count-requires : goal.argument_count-requires
argument_count-requires c = (known? c.word_in-n.result).0 (sym c.known_call.ensures ∙ not-false _ (ap not c.if-not-known_call.false))

pub returns : goal.returns
returns c =
    let word_in = c.word_in-n in
    let s = c.args in
    ap (λ (k : ℕ). leb (4 * k) (length s.bytes.now - s.i - 4)) (c.argument_count.ensures.0 ∙ ap argument_count word_in.ensures)
    ∙ by_bytes-left s.bytes.now s.i (omega arith)
    (ap known_call (sym word_in.ensures) ∙ sym c.known_call.ensures ∙ not-false _ (ap not c.if-not-known_call.false))
