-- `transcripts::replays::replay` meets its contract. Assumes nothing.
use native.Mathlib.Omega.{arith}
use lib.ListN.{length-take}
use borrow.Author.Rules.{rules}
use Rattle.script.proofs.Replays.{bad}
use Rattle.transcripts.proofs.Starts.{checked}
use Rattle.transcripts.proofs.Turn.{fits}
use Rattle.transcripts.proofs.replays.replay.Goals as goal

pub returns-then-not-well_formed : goal.returns-then-not-well_formed
returns-then-not-well_formed c =
    let s = c.args in
    let no = checked s.bytes.now c.width_of.ensures c.well_formed-2.ensures c.if-not-well_formed.true in
    let p = bad 6 s.bytes.now s.out.now no c.put_bad_script.ensures in
    (p, fits s.bytes.now p (search rules))

pub memory_words-e-requires : goal.memory_words-e-requires
memory_words-e-requires c = checked c.args.bytes.now c.width_of.ensures c.well_formed-2.ensures c.if-not-well_formed.false

pub slice_bounds-run-end : goal.slice_bounds-run-end
slice_bounds-run-end c = simp length-take (omega arith)

pub run-requires : goal.run-requires
run-requires c = record {
  bytes_value = checked c.args.bytes.now c.width_of.ensures c.well_formed-2.ensures c.if-not-well_formed.false;
  sized = simp length-take (omega arith);
  room = search rules;
}

pub returns : goal.returns
returns c =
    let s = c.args in
    let p = c.run.ensures in
    (p, fits s.bytes.now p (search rules))
