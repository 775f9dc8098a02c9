-- `collecting::collecting::collect_effect` meets its contract. What was read before the first change is what the definition reads. Assumes nothing.
use Rattle.threes.proofs.EffectLaws.{collect-is}
use Rattle.collecting.proofs.collecting.collect_effect.Goals as goal

pub returns : goal.returns
returns c =
    let s = c.args in
    collect-is s.b.bits s.m.now s.c s.t
    c.current-d.ensures c.child_of-k.ensures c.three_place-j.ensures.0 c.list-l.ensures c.read_word-v.ensures c.read_word-x.ensures
    c.read_word-y.ensures
    c.mapping.ensures c.page_of-first.ensures c.mapping-2.ensures c.page_of-second.ensures c.drop_listed.ensures c.return_chained.ensures
