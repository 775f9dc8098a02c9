-- `block_kernel::sequences::call` meets its contract. The six words of a block that is told are written behind the answer. Assumes nothing.
use mathlib.Core.Bool.{not}
use mathlib.Core.Path.{ap}
use native.Mathlib.Omega.{arith}
use lib.ListN.{length-set}
use Rattle.common.proofs.Writing.{reply-length}
use Rattle.block_sequences.proofs.Ending.{whole_parts}
use Rattle.block_sequences.proofs.Replied.{tells_none, tells-one, call-of, one_place, seven-places, told-length, single_replied, telling_replied}
use Rattle.block_kernel.proofs.sequences.call.Goals as goal

pub overflow_add-i : goal.overflow_add-i
overflow_add-i c = omega (arith, (whole_parts c.args.ws.now c.args.i c.requires.i_value).1)

pub overflow_add-i-2 : goal.overflow_add-i-2
overflow_add-i-2 c = omega (arith, (whole_parts c.args.ws.now c.args.i c.requires.i_value).1)

pub overflow_add-i-3 : goal.overflow_add-i-3
overflow_add-i-3 c = omega (arith, (whole_parts c.args.ws.now c.args.i c.requires.i_value).1)

pub untold-requires : goal.untold-requires
untold-requires c =
    let known = (whole_parts c.args.ws.now c.args.i c.requires.i_value).0 in
    record { n_bound = omega (arith, known, c.read-n.ensures); other = tells_none c.tells_block.ensures (ap not c.if-not-tells_block.true) }

pub bounds-answers-p : goal.bounds-answers-p
bounds-answers-p c =
    let t = tells_none c.tells_block.ensures (ap not c.if-not-tells_block.true) in
    omega (arith, c.requires.room, one_place c.args.ws.now c.args.i c.read-n.ensures t)

pub returns-then-not-tells_block : goal.returns-then-not-tells_block
returns-then-not-tells_block c =
    let a = c.args in
    let r = c.read-n.ensures in
    let t = tells_none c.tells_block.ensures (ap not c.if-not-tells_block.true) in
    let is = call-of a.ws.now a.i r c.read.ensures c.read-2.ensures c.read-3.ensures in
    single_replied a.ws.now a.i r a.m.now is a.answers.now a.p c.pack.ensures t c.untold.ensures

pub telling-t-requires : goal.telling-t-requires
telling-t-requires c = tells-one c.tells_block.ensures (ap not c.if-not-tells_block.false)

pub bounds-answers-p-2 : goal.bounds-answers-p-2
bounds-answers-p-2 c =
    let t = tells-one c.tells_block.ensures (ap not c.if-not-tells_block.false) in
    omega (arith, c.requires.room, seven-places c.args.ws.now c.args.i c.read-n.ensures t)

pub write_words-requires : goal.write_words-requires
write_words-requires c =
    let a = c.args in
    let r = c.read-n.ensures in
    let t = tells-one c.tells_block.ensures (ap not c.if-not-tells_block.false) in
    let is = call-of a.ws.now a.i r c.read.ensures c.read-2.ensures c.read-3.ensures in
    let l = told-length a.ws.now a.i r a.m.now is t c.telling-t.ensures.1 in
    simp length-set (omega (arith, c.requires.room, seven-places a.ws.now a.i r t, l))

pub shape_of-answers : goal.shape_of-answers
shape_of-answers c =
    let a = c.args in
    let x = c.pack-2.result in
    reply-length a.answers.now a.p x c.telling-t.result.words c.write_words.ensures

pub returns : goal.returns
returns c =
    let a = c.args in
    let r = c.read-n.ensures in
    let t = tells-one c.tells_block.ensures (ap not c.if-not-tells_block.false) in
    let is = call-of a.ws.now a.i r c.read.ensures c.read-2.ensures c.read-3.ensures in
    let pack2 = c.pack-2.ensures in
    telling_replied a.ws.now a.i r a.m.now is a.answers.now a.p pack2 t c.telling-t.ensures c.write_words.ensures
