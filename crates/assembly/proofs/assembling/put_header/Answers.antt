-- `assembly::assembling::put_header` meets its contract. The three words stand one behind the other. Assumes nothing.
use Rattle.script.proofs.Puts.{put_then}
use Rattle.assembly.proofs.assembling.put_header.Goals as goal

pub returns : goal.returns
returns c =
    let put_word = c.put_word-a in
    let put-word2 = c.put_word-b in
    put_then
    (put_then put_word.ensures
    put-word2.ensures)
    c.put_word.ensures
