-- `threes::lists::drop_listed` meets its contract. The list is no page of the roots, so that the two are written in either order. Assumes nothing.
use Rattle.threes.proofs.DropLaws.{drop-listed-is}
use Rattle.threes.proofs.lists.drop_listed.Goals as goal

pub returns : goal.returns
returns c =
    let s = c.args in
    drop-listed-is s.b.bits c.args.b.known.0 s.m.now s.k.0 s.t c.requires.stands s.j c.list-l.result.0 c.roots_of-r.result.directory.0
    c.roots_of-r.result.shadow1.0 c.roots_of-r.result.shadow2.0
    c.virtual_page.result.0 c.directory_index-i.result c.drop_three.new.m c.put_three.new.m
    c.requires.place c.list-l.ensures c.roots_of-r.ensures.0 c.roots_of-r.ensures.1 c.roots_of-r.ensures.2 c.virtual_page.ensures
    c.directory_index-i.ensures c.drop_three.ensures c.put_three.ensures
