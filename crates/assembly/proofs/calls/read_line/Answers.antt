-- `assembly::calls::read_line` meets its contract. No word, a reason or a record. Assumes nothing.
use Rattle.text.specs.Text.{split}
use Rattle.text.specs.Steps.{part}
use lib.ListN.{length}
use Rattle.assembly.proofs.Reasons.{fine}
use Rattle.assembly.proofs.Records.{skipped, taken}
use Rattle.assembly.proofs.calls.read_line.Goals as goal

pub returns-in_default : goal.returns-in_default
returns-in_default c = skipped c.args.s.now c.args.out.now c.args.at c.requires.at_bound c.in_default.ensures

pub put_record-next-requires : goal.put_record-next-requires
put_record-next-requires c =
    let s = c.args.s.now in
    let e = c.in-Some.word.end in
    let h = fine c.args.at (part s c.in-Some.word.start e) (split (part s e (length s))) c.in_ok-n.ensures.1 in
    record { s_value = h.numbers; room = (h.room, c.requires.room) }

pub returns : goal.returns
returns c =
    let n = c.in-Some.ensures in
    let p = c.put_record-next.ensures in
    taken c.args.s.now c.args.out.now c.args.at _ _ n.0 n.1 c.in_ok-n.ensures.0 c.in_ok-n.ensures.1 p.0 p.1
