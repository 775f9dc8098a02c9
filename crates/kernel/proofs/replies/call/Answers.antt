-- `kernel::replies::call` meets its contract. A resume's words are written behind its answer. Assumes nothing.
use native.Mathlib.Omega.{arith}
use lib.ListN.{length-set}
use Rattle.common.proofs.Writing.{reply-length}
use Rattle.kernel.proofs.Words.{whole_parts}
use Rattle.kernel.proofs.Replied.{resumed-length, one_place, twelve-places, single_replied, resume_replied}
use Rattle.kernel.proofs.replies.call.Goals as goal

pub bounds-answers-p : goal.bounds-answers-p
bounds-answers-p c =
    let k = one_place c.args.ws.now c.args.i c.read.ensures c.requires.i_value c.if-read-ne15.true in
    omega (arith, c.requires.room, k)

pub returns-then-read-ne15 : goal.returns-then-read-ne15
returns-then-read-ne15 c =
    let a = c.args in
    let if1 = c.if-read-ne15.true in
    single_replied a.ws.now a.i c.read.ensures a.m.now a.answers.now a.p c.pack.ensures c.requires.i_value if1
    c.single.ensures

pub overflow_add-i : goal.overflow_add-i
overflow_add-i c =
    omega (arith, (whole_parts c.args.ws.now c.args.i c.requires.i_value).1)

pub overflow_add-i-2 : goal.overflow_add-i-2
overflow_add-i-2 c =
    omega (arith, (whole_parts c.args.ws.now c.args.i c.requires.i_value).1)

pub bounds-answers-p-2 : goal.bounds-answers-p-2
bounds-answers-p-2 c =
    let k = twelve-places c.args.ws.now c.args.i c.read.ensures c.if-read-ne15.false in
    omega (arith, c.requires.room, k)

pub write_words-requires : goal.write_words-requires
write_words-requires c =
    let k = twelve-places c.args.ws.now c.args.i c.read.ensures c.if-read-ne15.false in
    let l = resumed-length c.args.m.now c.read-2.result c.read-3.result c.resume-answer.ensures.1 in
    simp length-set (omega (arith, c.requires.room, k, l))

pub shape_of-answers : goal.shape_of-answers
shape_of-answers c =
    let s = c.args in
    let x = c.pack-2.result in
    reply-length s.answers.now s.p x c.resume-answer.result.words c.write_words.ensures

pub returns : goal.returns
returns c =
    let pack2 = c.pack-2.ensures in
    let s = c.args in
    resume_replied s.ws.now s.i c.read.ensures s.m.now s.answers.now s.p pack2 c.if-read-ne15.false
    c.read-2.ensures c.read-3.ensures c.resume-answer.ensures c.write_words.ensures
