-- `adding::adding::add_effect` meets its contract. The three stores are those of the definition, one after the other. Assumes nothing.
use Rattle.adding.proofs.Laws.{add_is}
use Rattle.adding.proofs.adding.add_effect.Goals as goal

pub returns : goal.returns
returns c =
    let s = c.args in
    add_is s.b.bits s.m.now s.p s.c s.t s.r
    c.current-d.ensures c.child_of-k.ensures c.mapping.ensures c.entry_of-w.ensures c.set_mapping.ensures c.set_above.ensures
    c.set_lent.ensures
