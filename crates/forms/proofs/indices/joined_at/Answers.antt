-- `forms::indices::joined_at` meets its contract. Assumes nothing.
use Rattle.own_pages.proofs.Laws.Asked.{joined_as}
use Rattle.forms.proofs.indices.joined_at.Goals as goal

pub returns : goal.returns
returns c =
    let s = c.args in
    joined_as s.o.now.width.bits s.o.now.words.now s.o.now.descriptor.0 s.i c.words_at-t.ensures
