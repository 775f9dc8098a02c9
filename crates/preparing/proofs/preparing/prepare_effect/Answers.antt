-- `preparing::preparing::prepare_effect` meets its contract. What was read before the first change is what the definition reads. Assumes nothing.
use Rattle.threes.proofs.EffectLaws.{prepare-is}
use Rattle.preparing.proofs.preparing.prepare_effect.Goals as goal

pub returns : goal.returns
returns c =
    let s = c.args in
    prepare-is s.b.bits s.m.now s.c s.t s.p
    c.current-d.ensures c.child_of-k.ensures c.list-l.ensures c.read_word-free.ensures c.roots_of-r.ensures.0 c.roots_of-r.ensures.1
    c.roots_of-r.ensures.2
    c.virtual_page.ensures c.directory_index-i.ensures c.link-q.ensures c.link-s.ensures c.frame_at-x.ensures.0 c.frame_at-y.ensures.0
    c.frame_at-z.ensures.0
    c.take_all.ensures c.put_three.ensures c.append_three.ensures
