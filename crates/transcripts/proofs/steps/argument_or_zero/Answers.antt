-- `transcripts::steps::argument_or_zero` meets its contract. The table of counts decides. Assumes nothing.
use mathlib.Core.Path.{ap, ◌∙◌}
use Prim.Native.Nat.{ℕ}
use native.Mathlib.Omega.{arith}
use Rattle.rules.specs.Replay.{argument_count}
use Rattle.rules.specs.Bytes.{word_in}
use Rattle.script.specs.Walk.{argument_at}
use Rattle.script.proofs.Walks.{whole?}
use Rattle.transcripts.proofs.Calls.{is_argument, no_argument}
use Rattle.transcripts.proofs.steps.argument_or_zero.Goals as goal

pub word_in-requires : goal.word_in-requires
word_in-requires c = omega (arith, ((whole? c.args.bytes.now c.args.i).0 c.requires).1)

pub argument_count-requires : goal.argument_count-requires
argument_count-requires c =
    let s = c.args in
    rw c.word_in.ensures ((whole? s.bytes.now s.i).0 c.requires).0

pub argument-requires : goal.argument-requires
argument-requires c =
    let e = c.argument_count.ensures.0 ∙ ap (λ (n : ℕ). argument_count n) c.word_in.ensures in record { i_value = c.requires; counted = omega (arith, e) }

pub returns-then-j-argument_count : goal.returns-then-j-argument_count
returns-then-j-argument_count c =
    let s = c.args in
    let e = c.argument_count.ensures.0 ∙ ap (λ (n : ℕ). argument_count n) c.word_in.ensures in
    c.argument.ensures ∙ is_argument (word_in s.bytes.now s.i) (argument_at s.bytes.now s.i) s.j (omega (arith, e))

pub returns : goal.returns
returns c =
    let s = c.args in
    let e = c.argument_count.ensures.0 ∙ ap (λ (n : ℕ). argument_count n) c.word_in.ensures in
    no_argument (word_in s.bytes.now s.i) (argument_at s.bytes.now s.i) s.j (omega (arith, e))
