-- `making::creating::create_effect` meets its contract. What each call leaves is what the definition has next. Assumes nothing.
use mathlib.Core.Path.{◌≡◌}
use native.Mathlib.Omega.{arith}
use lib.ListN.{length}
use Rattle.memory.proofs.Widths.{words-least}
use Rattle.making.proofs.Create.{effect_is}
use Rattle.making.proofs.creating.create_effect.Goals as goal

pub fill_page-requires : goal.fill_page-requires
fill_page-requires c =
    let h = c.args.b.known in
    let s = c.args in
    record { fits = omega (arith, words-least s.b.bits h.0) }

pub returns : goal.returns
returns c =
    let five : length c.args.five ≡ 5 = omega (arith, c.well_formed.1.1.0) in
    effect_is c.args.b.bits c.args.m.now
    c.args.five five
    c.current-d.ensures c.read_word.ensures c.frame-own.ensures.0 c.descriptor_words-ws.ensures c.mapping.ensures
    c.page_of-p.ensures c.mapping-2.ensures c.page_of-l.ensures
    c.take_all.ensures c.fill_page.ensures c.write_word.ensures c.set_lent.ensures
