-- `judge::tree::placed` meets its contract. Assumes nothing.
use mathlib.Core.Bool.{not}
use mathlib.Core.Path.{ap}
use mathlib.Core.Path.{refl}
use Rattle.judge.proofs.Laws.Tree.{placed_as}
use Rattle.own_pages.proofs.Laws.Tests.{yes, no, unequal, equal, same-eqb}
use Rattle.judge.proofs.tree.placed.Goals as goal

pub returns-then-not-virtual_address : goal.returns-then-not-virtual_address
returns-then-not-virtual_address c =
    let s = c.args in
    rw (placed_as s.b.bits s.m.now s.c.0 c.parent-p.ensures c.read_word-v.ensures, no c.virtual_address.ensures (ap not c.if-not-virtual_address.true))

pub returns-then-table_for-eq0 : goal.returns-then-table_for-eq0
returns-then-table_for-eq0 c =
    let s = c.args in
    let parent = c.parent-p in
    rw (placed_as s.b.bits s.m.now s.c.0 parent.ensures c.read_word-v.ensures, yes c.virtual_address.ensures (ap not c.if-not-virtual_address.false), equal c.table_for.ensures refl c.if-table_for-eq0.true)

pub returns-then-not-child_at : goal.returns-then-not-child_at
returns-then-not-child_at c =
    let s = c.args in
    let parent = c.parent-p in
    let read_word = c.read_word-v in
    let virtual-address = c.virtual_address in
    rw (placed_as s.b.bits s.m.now s.c.0 parent.ensures read_word.ensures, yes virtual-address.ensures (ap not c.if-not-virtual_address.false), unequal c.table_for.ensures refl c.if-table_for-eq0.false, no c.child_at.ensures (ap not c.if-not-child_at.true))

pub returns : goal.returns
returns c =
    let s = c.args in
    let parent = c.parent-p in
    let read_word = c.read_word-v in
    let virtual-address = c.virtual_address in
    let first = c.if-not-virtual_address in
    let table-for = c.table_for in
    let second = c.if-table_for-eq0 in
    rw (placed_as s.b.bits s.m.now s.c.0 parent.ensures read_word.ensures, yes virtual-address.ensures (ap not first.false), unequal table-for.ensures refl second.false, yes c.child_at.ensures (ap not c.if-not-child_at.false))
    (same-eqb c.child_of.ensures refl)
