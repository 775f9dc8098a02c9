-- `transcripts::turns::transcribe` meets its contract. What is printed and what is left of the script make the whole. Assumes nothing.
use mathlib.Core.Path.{◌≡◌, ◌∙◌}
use Prim.Native.Nat.{◌-◌}
use native.Mathlib.Omega.{arith}
use borrow.Author.Rules.{rules}
use Rattle.script.proofs.Replays.{record_here, room-here, over}
use Rattle.transcripts.proofs.Turn.{start, turn, put-over}
use Rattle.transcripts.proofs.Starts.{header}
use Rattle.transcripts.proofs.turns.transcribe.Goals as goal

pub word_in-requires : goal.word_in-requires
word_in-requires c = omega (arith, (header c.args.bytes.now c.requires.bytes_value).long)

pub word_in-count-requires : goal.word_in-count-requires
word_in-count-requires c = omega (arith, (header c.args.bytes.now c.requires.bytes_value).long)

pub word_in-i-requires : goal.word_in-i-requires
word_in-i-requires c = omega (arith, (header c.args.bytes.now c.requires.bytes_value).long)

pub loop-k-init : goal.loop-k-init
loop-k-init c =
    let width = c.width_of in
    let whole : c.word_in-count.result - 0 ≡ c.word_in-count.result = omega arith in
    let word_in = c.word_in in (
      start c.args.bytes.now {m = c.args.m.now} width.ensures c.requires.bytes_value c.requires.formatted word_in.ensures
          c.put_first_line-at.ensures.0 (whole ∙ c.word_in-count.ensures) c.word_in-i.ensures,
      search rules,
      search rules,
      search rules,
    )

pub step-a-requires : goal.step-a-requires
step-a-requires c = record_here 6 _ _ c.loop-k.invariant.0 (omega arith)

pub overflow_add-k : goal.overflow_add-k
overflow_add-k c = omega (arith, c.loop-k.invariant.0.most)

pub put_answer-at-requires : goal.put_answer-at-requires
put_answer-at-requires c = omega (arith, room-here 6 _ _ c.loop-k.invariant.0 (omega arith))

pub next_record-i-requires : goal.next_record-i-requires
next_record-i-requires c = record_here 6 _ _ c.loop-k.invariant.0
    (omega arith)

pub loop-k-preserved : goal.loop-k-preserved
loop-k-preserved c =
    let s = c.args in
    let p = c.loop-k in
    let step = c.step-a in
    let put-answer = c.put_answer-at in (
      turn s.bytes.now p.invariant.0 (omega arith) step.ensures.0 step.ensures.1 put-answer.ensures.0 c.next_record-i.ensures.0 (omega arith),
      omega (arith, put-answer.ensures.0.next),
      search rules,
      search rules,
    )

pub returns : goal.returns
returns c = put-over c.put_first_line-at.ensures.0 (over 6 _ _ c.loop-k.invariant.0 (omega arith)) c.loop-k.invariant.1
