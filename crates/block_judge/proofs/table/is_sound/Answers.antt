-- `block_judge::table::is_sound` meets its contract: the table words that are left pass where all do; the length is at most 16384, since the header passed.
-- Assumes nothing.
use mathlib.Core.Bool.{not}
use mathlib.Core.Path.{refl, sym, ap, ◌∙◌}
use Prim.Native.Nat.{ℕ}
use native.Mathlib.Nat.{sub-zero}
use native.Mathlib.Omega.{arith}
use Rattle.walk.specs.Finite.{from, all}
use Rattle.common.proofs.Chains.{fails, passes, then}
use Rattle.block_memory.proofs.Loops.{all-stop, all-next, all_end}
use Rattle.block_memory.specs.Partition.{is_partition}
use Rattle.block_soundness.specs.Test.{sound_test}
use Rattle.block_judge.proofs.Sentences.{header-short, good_word}
use Rattle.block_judge.proofs.table.is_sound.Goals as goal

pub overflow_cast-root_of : goal.overflow_cast-root_of
overflow_cast-root_of c =
    let h = header-short c.args.m.now (passes c.header_test.ensures (ap not c.if-not-header_test.false)) in
    omega (arith, h)

pub loop-j-init : goal.loop-j-init
unfolding sound_test
loop-j-init c =
    let m = c.args.m.now in
    let p = c.is_partition.ensures ∙ ap (is_partition m) c.root_of.ensures.0 in
    let a = passes c.header_test.ensures (ap not c.if-not-header_test.false) in
    ap (λ (k : ℕ). all (good_word m) (from k 0)) (sub-zero _) ∙ sym (then (then a (passes p (ap not c.if-not-is_partition.false))) refl)

pub returns-then-not-table_word_test : goal.returns-then-not-table_word_test
returns-then-not-table_word_test c =
    let m = c.args.m.now in
    let p = c.loop-j in
    all-stop (good_word m) _ p.j (omega arith) (fails c.table_word_test.ensures (ap not c.if-not-table_word_test.true)) ∙ p.invariant

pub loop-j-preserved : goal.loop-j-preserved
loop-j-preserved c =
    let m = c.args.m.now in
    let p = c.loop-j in
    all-next (good_word m) _ p.j (omega arith) (passes c.table_word_test.ensures (ap not c.if-not-table_word_test.false)) ∙ p.invariant

pub returns : goal.returns
returns c =
    let m = c.args.m.now in
    let p = c.loop-j in
    all_end (good_word m) _ p.j (omega arith) ∙ p.invariant
