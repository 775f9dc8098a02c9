-- `assembly::calls::put_numbers` meets its contract. The numbers put and those left make the whole. The measure is what is left of the line. Assumes nothing.
use mathlib.Core.Path.{ap}
use borrow.Author.Rules.{rules}
use Rattle.rules.specs.Bytes.{little_endian}
use Rattle.script.proofs.Puts.{put_same}
use Rattle.assembly.proofs.Records.{begun, over, is-number, room-here, goes_on}
use Rattle.assembly.proofs.calls.put_numbers.Goals as goal

pub loop-word-init : goal.loop-word-init
loop-word-init c =
    let s = c.args in
    (begun s.s.now s.out.now s.at c.requires.s_value c.requires.room, search rules, search rules)

pub number-x-requires : goal.number-x-requires
number-x-requires c =
    let s = c.args in
    let n = c.in-Some.ensures in
    is-number s.s.now s.out.now s.at c.loop-word.invariant.0 n.0 n.1

pub put_word-to-requires : goal.put_word-to-requires
put_word-to-requires c =
    let s = c.args in
    let n = c.in-Some.ensures in
    room-here s.s.now s.out.now s.at c.loop-word.invariant.0 n.0 n.1

pub loop-word-preserved : goal.loop-word-preserved
loop-word-preserved c =
    let s = c.args in
    let n = c.in-Some.ensures in
    let p = put_same (ap little_endian c.number-x.ensures) c.put_word-to.ensures in
    (goes_on s.s.now s.out.now s.at c.loop-word.invariant.0 n.0 n.1 p, n.0.within, search rules)

pub returns : goal.returns
returns c =
    let s = c.args in
    over s.s.now s.out.now s.at c.loop-word.invariant.0 c.in_default.ensures
