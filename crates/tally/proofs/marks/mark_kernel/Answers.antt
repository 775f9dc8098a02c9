-- `tally::marks::mark_kernel` meets its contract. Assumes nothing.
use mathlib.Core.Bool.{not}
use mathlib.Core.Path.{ap}
use mathlib.Core.Path.{refl, ◌∙◌}
use mathlib.Core.List.{◌++◌}
use native.Mathlib.Omega.{arith}
use Rattle.memory.specs.Uses.{five_pages}
use Rattle.soundness.proofs.Used.{front}
use Rattle.soundness.specs.Test.{listed_pages}
use Rattle.tally.specs.Bits.{marks_in}
use Rattle.tally.proofs.Laws.Marks.{mark_went, mark-failed, mark-end}
use Rattle.tally.proofs.marks.mark_kernel.Goals as goal

pub loop-j-init : goal.loop-j-init
loop-j-init c = (refl, refl)

pub returns-then-not-mark_page : goal.returns-then-not-mark_page
returns-then-not-mark_page c =
    let s = c.args in
    let threes = c.threes in
    let p = c.loop-j in
    let mark-page = c.mark_page in
    mark-failed (five_pages s.b.bits s.m.now s.d.0 ++ listed_pages s.b.bits s.m.now s.d.0) p.j (marks_in p.seen) mark-page.result
    (marks_in mark-page.new.seen)
    (omega (arith, threes.ensures, front s.b.bits s.m.now s.d.0)) c.kernel_page.ensures mark-page.ensures (ap not c.if-not-mark_page.true)
    p.invariant.1

pub loop-j-preserved : goal.loop-j-preserved
loop-j-preserved c =
    let s = c.args in
    let threes = c.threes in
    let p = c.loop-j in
    let mark-page = c.mark_page in (
      mark-page.auto.seen ∙ p.invariant.0,
      mark_went (five_pages s.b.bits s.m.now s.d.0 ++ listed_pages s.b.bits s.m.now s.d.0) p.j (marks_in p.seen) mark-page.result
          (marks_in mark-page.new.seen)
          (omega (arith, threes.ensures, front s.b.bits s.m.now s.d.0)) c.kernel_page.ensures mark-page.ensures (ap not c.if-not-mark_page.false)
          p.invariant.1,
    )

pub returns : goal.returns
returns c =
    let s = c.args in
    mark-end (five_pages s.b.bits s.m.now s.d.0 ++ listed_pages s.b.bits s.m.now s.d.0) c.loop-j.j (marks_in c.loop-j.seen)
    (omega (arith, c.threes.ensures, front s.b.bits s.m.now s.d.0)) c.loop-j.invariant.1
