-- `own_pages::roots::far_word` meets its contract. Assumes nothing.
use mathlib.Core.Path.{refl}
use Rattle.own_pages.proofs.Laws.Indices.{word_by_index}
use Rattle.own_pages.proofs.roots.far_word.Goals as goal

pub returns : goal.returns
returns c =
    let s = c.args in
    word_by_index s.b.bits s.m.now s.i c.read.ensures c.index.ensures.0 refl
