-- `judge::cells::Asked::cell` meets its contract. Assumes nothing.
use mathlib.Core.Bool.{not}
use Rattle.own_pages.proofs.Laws.Tests.{yes, no, unequal, equal}
use mathlib.Core.Path.{refl, ap}
use Rattle.judge.proofs.cells.Asked.cell.Goals as goal

pub returns-then-x-ne0 : goal.returns-then-x-ne0
returns-then-x-ne0 c = rw (equal refl refl c.if-w-eq0.true, unequal refl refl c.if-x-ne0.true)

pub returns-then-w-eq0 : goal.returns-then-w-eq0
returns-then-w-eq0 c = rw (equal refl refl c.if-w-eq0.true, equal refl refl c.if-x-ne0.false)

pub entry_test-requires : goal.entry_test-requires
entry_test-requires c =
    let h = c.requires in
    record { end = c.args.self.now.at_end }

pub returns-then-not-entry_test : goal.returns-then-not-entry_test
returns-then-not-entry_test c = rw (unequal refl refl c.if-w-eq0.false, no c.entry_test.ensures (ap not c.if-not-entry_test.true))

pub returns-then-not-virtual_address : goal.returns-then-not-virtual_address
returns-then-not-virtual_address c = rw (unequal refl refl c.if-w-eq0.false, yes c.entry_test.ensures (ap not c.if-not-entry_test.false), no c.virtual_address.ensures (ap not c.if-not-virtual_address.true))

pub returns-then-not-shadow1_word : goal.returns-then-not-shadow1_word
returns-then-not-shadow1_word c =
    let first = c.if-w-eq0 in
    let entry-test = c.entry_test in
    rw (
      unequal refl refl first.false,
      yes entry-test.ensures (ap not c.if-not-entry_test.false),
      yes c.virtual_address.ensures (ap not c.if-not-virtual_address.false),
      no c.shadow1_word.ensures (ap not c.if-not-shadow1_word.true),
    )
