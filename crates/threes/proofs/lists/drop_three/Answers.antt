-- `threes::lists::drop_three` meets its contract. The later words are copied six words lower, and six zeros written behind them. Assumes nothing.
use mathlib.Core.Path.{◌≡◌}
use lib.ListN.{replicate}
use Rattle.std.proofs.Common.{rules}
use Rattle.threes.proofs.DropLaws.{drop-three-is}
use Rattle.threes.proofs.lists.drop_three.Goals as goal

pub returns : goal.returns
returns c =
    let s = c.args in
    let zeros : c.fill.new.self ≡ replicate 6 0 = search rules in
    drop-three-is s.b.bits s.b.known.0 s.m.now s.l.0 s.j c.requires.listed c.read_word-free.result c.index.result c.index-2.result c.index-end.result
    c.read_word-free.ensures c.index.ensures.0 c.index-2.ensures.0 c.index-end.ensures.0
    c.fill.new.self c.copy_within.new.self c.write_word.new.m c.copy_within.ensures.after zeros c.write_word.ensures
