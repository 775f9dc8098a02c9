-- `script::records::all_records` meets its contract. The records left decide as all of them do. Assumes nothing.
use mathlib.Core.Bool.{not}
use mathlib.Core.Path.{◌≡◌, sym, ap, ◌∙◌}
use Prim.Native.Nat.{ℕ, ◌-◌, ◌+◌, ◌<◌}
use native.Mathlib.Omega.{arith}
use borrow.Author.Tests.{not-true, not-false}
use Rattle.rules.specs.Replay.{records}
use Rattle.script.specs.Walk.{is_script}
use Rattle.script.proofs.Walks.{no_more, ends, goes_on}
use Rattle.script.proofs.records.all_records.Goals as goal

pub returns-then-not-whole_record : goal.returns-then-not-whole_record
returns-then-not-whole_record c =
    let p = c.loop in
    sym (sym p.invariant.0 ∙ ends c.args.bytes.now (c.args.count - p.counter) p.i (omega arith) (sym c.whole_record.ensures ∙ not-true _ (ap not c.if-not-whole_record.true)))

pub loop-preserved : goal.loop-preserved
loop-preserved c =
    let p = c.loop in
    let s = c.args in
    let bs = s.bytes.now in
    let left : 0 < s.count - p.counter = omega arith in
    let e : s.count - (p.counter + 1) ≡ s.count - p.counter - 1 = omega arith in (
      ap (λ (n : ℕ). is_script (records n bs c.next_record-i.result)) e
          ∙ ap (λ (i : ℕ). is_script (records (s.count - p.counter - 1) bs i)) c.next_record-i.ensures.0
          ∙ sym (goes_on bs (s.count - p.counter) p.i left (sym c.whole_record.ensures ∙ not-false _ (ap not c.if-not-whole_record.false)))
          ∙ p.invariant.0,
      c.next_record-i.ensures.1,
    )

pub returns : goal.returns
returns c =
    let p = c.loop in
    let s = c.args in
    let z : s.count - p.counter ≡ 0 = omega arith in
    sym (no_more s.bytes.now p.i) ∙ ap (λ (n : ℕ). is_script (records n s.bytes.now p.i)) (sym z) ∙ p.invariant.0
