-- `script::records::next_record` meets its contract. A whole record ends within the bytes. Assumes nothing.
use mathlib.Core.Path.{◌≡◌, ap, ◌∙◌}
use Prim.Native.Nat.{ℕ, ◌+◌, ◌*◌}
use native.Mathlib.Omega.{arith}
use Rattle.rules.specs.Bytes.{word_in}
use Rattle.rules.specs.Replay.{argument_count}
use Rattle.script.specs.Walk.{next_record}
use Rattle.script.proofs.Walks.{whole?}
use Rattle.script.proofs.records.next_record.Goals as goal

pub overflow_add-result : goal.overflow_add-result
overflow_add-result c = omega (arith, (whole? c.args.bytes.now c.args.i).0 c.requires)

pub word_in-requires : goal.word_in-requires
word_in-requires c = omega (arith, (whole? c.args.bytes.now c.args.i).0 c.requires)

pub argument_count-requires : goal.argument_count-requires
argument_count-requires c =
    let s = c.args in
    omega (arith, (whole? s.bytes.now s.i).0 c.requires)

pub overflow_add-result-2 : goal.overflow_add-result-2
overflow_add-result-2 c =
    let s = c.args in
    let e : c.argument_count.result ≡ argument_count (word_in s.bytes.now s.i) = c.argument_count.ensures.0 ∙ ap argument_count c.word_in.ensures in
    omega (arith, (whole? s.bytes.now s.i).0 c.requires)

pub returns : goal.returns
returns c =
    let s = c.args in
    let e : s.i + 4 + 4 * c.argument_count.result ≡ next_record s.bytes.now s.i = ap (λ (k : ℕ). s.i + 4 + 4 * k) (c.argument_count.ensures.0 ∙ ap argument_count c.word_in.ensures) in
    (e, omega (arith, (whole? s.bytes.now s.i).0 c.requires))
