-- `judge::sound::is_sound` meets its contract: no memory has more than 4,096 pages. Assumes nothing.
use mathlib.Core.Bool.{not}
use mathlib.Core.Path.{ap, ◌∙◌}
use Prim.Native.Nat.{ℕ, ◌≤◌}
use native.Mathlib.Omega.{arith}
use Rattle.memory.specs.Edition.{width}
use Rattle.memory.specs.Partition.{pages}
use Rattle.soundness.specs.Test.{header_test}
use Rattle.own_pages.proofs.Laws.Tests.{yes, no}
use Rattle.tally.specs.Bits.{words_for}
use Rattle.judge.proofs.Laws.Judged.{pages-most, zeros-part, unsound-header, verdict}
use Rattle.judge.proofs.sound.is_sound.Goals as goal

pub returns-then-not-header_test : goal.returns-then-not-header_test
returns-then-not-header_test c =
    let s = c.args in
    let test = c.header_test.ensures ∙ ap (λ (b : ℕ). header_test b s.m.now) c.width-b.ensures in
    unsound-header (width s.m.now) s.m.now (no test (ap not c.if-not-header_test.true))

pub overflow_add-words : goal.overflow_add-words
overflow_add-words c =
    let width = c.width-b in
    let header = yes c.header_test.ensures (ap not c.if-not-header_test.false) in
    omega (arith, c.pages.ensures, pages-most width.result.bits c.args.m.now width.result.known.1 header)

pub slice_bounds-seen-end : goal.slice_bounds-seen-end
slice_bounds-seen-end c =
    let width = c.width-b in
    let header = yes c.header_test.ensures (ap not c.if-not-header_test.false) in
    omega (arith, c.pages.ensures, pages-most width.result.bits c.args.m.now width.result.known.1 header)

pub judged_with-requires : goal.judged_with-requires
judged_with-requires c =
    let s = c.args in
    let width = c.width-b in
    let header = yes c.header_test.ensures (ap not c.if-not-header_test.false) in
    let n = c.pages in
    let few : words_for n.result ≤ 128 = omega (arith, n.ensures, pages-most width.result.bits s.m.now width.result.known.1 header) in
    record { header = header; clear = zeros-part 128 (words_for n.result) (words_for (pages width.result.bits s.m.now)) (ap words_for n.ensures) few }

pub returns : goal.returns
returns c =
    let s = c.args in
    let width = c.width-b in
    verdict s.m.now width.ensures width.result.known.0 c.judged_with.ensures
