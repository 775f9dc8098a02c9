-- `own_pages::own::Own::pair_shut` meets its contract. Assumes nothing.
use mathlib.Core.Path.{refl}
use borrow.Author.Tests.{eq-eqb, ne_eqb}
use Rattle.own_pages.proofs.Laws.Asked.{shut_as, table_as}
use Rattle.own_pages.proofs.Laws.Tests.{equal, unequal}
use Rattle.own_pages.proofs.own.Own.pair_shut.Goals as goal

pub returns-then-w-eq0 : goal.returns-then-w-eq0
returns-then-w-eq0 c =
    let s = c.args in
    rw (shut_as s.self.now.width.bits s.self.now.words.now s.self.now.descriptor.0 s.p.0 s.p.1 (table_as s.self.now.width.bits s.self.now.words.now c.table_word-w.ensures c.args.self.now.at_directory c.virtual_page-v.ensures) refl, eq-eqb c.table_word-w.result 0 c.if-w-eq0.true)

pub returns-then-frame-p : goal.returns-then-frame-p
returns-then-frame-p c =
    let s = c.args in
    let h = c.requires in
    let virtual-page = c.virtual_page-v in
    let table-word = c.table_word-w in
    rw (shut_as s.self.now.width.bits s.self.now.words.now s.self.now.descriptor.0 s.p.0 s.p.1 (table_as s.self.now.width.bits s.self.now.words.now table-word.ensures c.args.self.now.at_directory virtual-page.ensures) refl, ne_eqb table-word.result 0 c.if-w-eq0.false, unequal c.frame.ensures.0 refl c.if-frame-p.true)

pub returns-then-accessible-ne0 : goal.returns-then-accessible-ne0
returns-then-accessible-ne0 c =
    let s = c.args in
    let h = c.requires in
    let virtual-page = c.virtual_page-v in
    let table-word = c.table_word-w in
    let first = c.if-w-eq0 in
    rw (shut_as s.self.now.width.bits s.self.now.words.now s.self.now.descriptor.0 s.p.0 s.p.1 (table_as s.self.now.width.bits s.self.now.words.now table-word.ensures c.args.self.now.at_directory virtual-page.ensures) refl, ne_eqb table-word.result 0 first.false, equal c.frame.ensures.0 refl c.if-frame-p.false, unequal c.accessible.ensures refl c.if-accessible-ne0.true)

pub returns : goal.returns
returns c =
    let s = c.args in
    let h = c.requires in
    let virtual-page = c.virtual_page-v in
    let table-word = c.table_word-w in
    let first = c.if-w-eq0 in
    let frame = c.frame in
    rw (shut_as s.self.now.width.bits s.self.now.words.now s.self.now.descriptor.0 s.p.0 s.p.1 (table_as s.self.now.width.bits s.self.now.words.now table-word.ensures c.args.self.now.at_directory virtual-page.ensures) (table_as s.self.now.width.bits s.self.now.words.now c.table_word.ensures c.args.self.now.at_shadow1 virtual-page.ensures), ne_eqb table-word.result 0 first.false, equal frame.ensures.0 refl c.if-frame-p.false, equal c.accessible.ensures refl c.if-accessible-ne0.false)
