-- `own_pages::words::zero_from` meets its contract. Assumes nothing.
use Rattle.own_pages.proofs.Laws.Runs.{page-rest}
use Rattle.own_pages.proofs.words.zero_from.Goals as goal

pub returns : goal.returns
returns c =
    let s = c.args in
    page-rest s.b.bits s.m.now s.p.0 s.k c.index.ensures.0 c.index-2.ensures.0
    c.page_words.ensures.0 c.zeros.ensures
