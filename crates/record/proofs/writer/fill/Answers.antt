-- `record::writer::fill` meets its contract. The four parts are written one behind the other. Assumes nothing.
use mathlib.Core.Path.{ap, ◌∙◌}
use Rattle.rules.specs.Bytes.{little_endian}
use Rattle.record.proofs.Writing.{in_parts}
use Rattle.record.proofs.writer.fill.Goals as goal

pub returns : goal.returns
returns c =
    let page-bytes = c.page_bytes in
    let begin = c.little_endian-begin in
    let end_byte = c.end_of in
    let end = c.little_endian-end in
    let put-bytes = c.put_bytes in
    let put-bytes2 = c.put_bytes-2 in
    let put-bytes3 = c.put_bytes-3 in
    let put-bytes4 = c.put_bytes-4 in
    let s = c.args in
    in_parts s.b.bits s.m.now s.revision.now s.out.now begin.result end.result put-bytes.new.out put-bytes2.new.out
    put-bytes3.new.out put-bytes4.new.out (begin.ensures ∙ ap little_endian page-bytes.ensures.0)
    (end.ensures ∙ ap little_endian end_byte.ensures) put-bytes.ensures put-bytes2.ensures put-bytes3.ensures put-bytes4.ensures
