-- `transcripts::steps::step` meets its contract. The number and the five words are the record's call. Assumes nothing.
use mathlib.Core.Path.{refl}
use native.Mathlib.Omega.{arith}
use Rattle.script.proofs.Walks.{whole?}
use Rattle.transcripts.proofs.Calls.{record_answer, record_known, record_after}
use Rattle.transcripts.proofs.steps.step.Goals as goal

pub word_in-n-requires : goal.word_in-n-requires
word_in-n-requires c =
    let s = c.args in
    omega (arith, ((whole? s.bytes.now s.i).0 c.requires).1)

pub unreachable-requires : goal.unreachable-requires
unreachable-requires c =
    record_known c.args.m.now c.args.bytes.now c.args.i c.requires c.word_in-n.ensures c.arguments-a.ensures refl c.in-None.ensures.0

pub returns : goal.returns
returns c =
    let s = c.args in
    let n = c.word_in-n.ensures in
    let a = c.arguments-a.ensures in
    let r = c.in-Some.ensures in
    (record_answer s.m.now s.bytes.now s.i c.requires n a refl r.0, record_after s.m.now s.bytes.now s.i c.requires n a r.1)
