-- `assembly::assembling::read_calls` meets its contract. The records so far and the lines left make the whole. The measure is the text left. Assumes nothing.
use native.Mathlib.Omega.{arith}
use borrow.Author.Rules.{rules}
use Rattle.assembly.proofs.Reasons.{number-some}
use Rattle.assembly.proofs.Runs.{reading, stops, goes_on, headed}
use Rattle.assembly.proofs.assembling.read_calls.Goals as goal

pub loop-i-init : goal.loop-i-init
loop-i-init c = (
  reading c.args.text.now c.args.out.now c.args.n c.args.first c.args.line,
  search rules,
  search rules,
  search rules,
  search rules,
  search rules,
)

pub returns-in-Err : goal.returns-in-Err
returns-in-Err c =
    let s = c.args in
    (rw c.number.ensures (stops s.text.now s.out.now s.n c.loop-i.invariant.0 c.line_at-line.ensures c.in-Err.ensures (number-some c.in-Err.why)), search rules)

pub overflow_add-count : goal.overflow_add-count
overflow_add-count c = omega (arith, c.in-Ok.ensures.few)

pub loop-i-smaller : goal.loop-i-smaller
loop-i-smaller c = let l = c.line_at-line.ensures in omega (arith, l.after, l.order, l.within)

pub loop-i-preserved : goal.loop-i-preserved
loop-i-preserved c =
    let s = c.args in
    let l = c.line_at-line.ensures in
    let r = c.in-Ok.ensures in (
      goes_on s.text.now s.out.now s.n c.loop-i.invariant.0 l r,
      omega (arith, l.within),
      omega (arith, l.after, l.order),
      omega (arith, l.after, l.order, r.few),
      r.room,
      search rules,
    )

pub returns : goal.returns
returns c = (
  headed c.args.text.now c.args.out.now c.args.n c.loop-i.invariant.0 (omega arith) (omega arith) c.put_header.ensures,
  search rules,
)
