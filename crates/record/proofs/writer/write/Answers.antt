-- `record::writer::write` meets its contract. Each test that the code makes is one of the row. Assumes nothing.
use mathlib.Core.Bool.{not}
use mathlib.Core.Path.{ap}
use mathlib.Core.Path.{sym, ◌∙◌}
use native.Mathlib.Omega.{arith}
use borrow.Author.Tests.{not-true, not-false}
use Rattle.record.proofs.Writing.{not_sound, short_revision, short_buffer, written}
use Rattle.record.proofs.writer.write.Goals as goal

pub returns-then-not-good : goal.returns-then-not-good
returns-then-not-good c =
    not_sound c.args.b.bits c.args.m.now c.args.revision.now c.args.out.now (sym (not-true _ (ap not c.if-not-good.true)) ∙ c.requires.tested)

pub returns-then-revision-lt64 : goal.returns-then-revision-lt64
returns-then-revision-lt64 c =
    short_revision c.args.b.bits c.args.m.now c.args.revision.now c.args.out.now (sym (not-false _ (ap not c.if-not-good.false)) ∙ c.requires.tested) (omega arith)

pub returns-then-out-lt76 : goal.returns-then-out-lt76
returns-then-out-lt76 c =
    short_buffer c.args.b.bits c.args.m.now c.args.revision.now c.args.out.now (sym (not-false _ (ap not c.if-not-good.false)) ∙ c.requires.tested) (omega arith)
    (omega arith)

pub fill-requires : goal.fill-requires
fill-requires c =
    let h = c.requires in
    record { sound = sym h.tested ∙ not-false _ (ap not c.if-not-good.false); room = (omega arith, omega arith) }

pub returns : goal.returns
returns c =
    let first = c.if-not-good in
    let w = written c.args.b.bits c.args.m.now c.args.revision.now c.args.out.now (sym (not-false _ (ap not first.false)) ∙ c.requires.tested) (omega arith) (omega arith) in
    (w.0, c.fill.ensures ∙ w.1)
