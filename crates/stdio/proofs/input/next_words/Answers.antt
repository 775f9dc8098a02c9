use Rattle.stdio.proofs.Taking.{loses-more, holds-more}
use Rattle.std.proofs.Common.{rules}
use Rattle.stdio.proofs.input.next_words.Goals as goal

pub loop-word-preserved : goal.loop-word-preserved
loop-word-preserved g c =
    let l = c.loop-word.invariant in
    let w = c.in_ok-word.ensures.word in
    (holds-more _ _ _ _ _ (search rules) l.0 l.1 w, loses-more _ _ _ _ l.1 c.in_ok-word.ensures.rest)
