-- `assembly::calls::put_word` meets its contract. A word is its four bytes. Assumes nothing.
use Rattle.script.proofs.Puts.{put_same}
use Rattle.assembly.proofs.calls.put_word.Goals as goal

pub returns : goal.returns
returns c = put_same c.little_endian-bytes.ensures c.put.ensures
