-- `judge::root::root_cell` meets its contract. Assumes nothing.
use mathlib.Core.Path.{refl}
use native.Mathlib.Omega.{arith}
use borrow.Author.Tests.{le-leb, lt-leb}
use Rattle.own_pages.proofs.Laws.Tests.{unequal, equal, same-eqb}
use Rattle.judge.proofs.root.root_cell.Goals as goal

pub returns-then-y-ne0 : goal.returns-then-y-ne0
returns-then-y-ne0 c = rw (unequal refl refl c.if-y-ne0.true)

pub returns-then-v-eq0 : goal.returns-then-v-eq0
returns-then-v-eq0 c = rw (equal refl refl c.if-y-ne0.false, lt-leb 1 c.args.v.0 (omega arith))

pub returns-then-flat-v : goal.returns-then-flat-v
returns-then-flat-v c =
    let s = c.args in
    rw (equal refl refl c.if-y-ne0.false, le-leb 1 s.v.0 (omega arith), lt-leb s.v.0 s.flat (omega arith))

pub returns-then-page_of-flat_page : goal.returns-then-page_of-flat_page
returns-then-page_of-flat_page c =
    let s = c.args in
    let first = c.if-y-ne0 in
    rw (
      equal refl refl first.false,
      le-leb 1 s.v.0 (omega arith),
      le-leb s.v.0 s.flat (omega arith),
      unequal
          c.page_of.ensures c.flat_page.ensures c.if-page_of-flat_page.true,
    )

pub returns : goal.returns
returns c =
    let s = c.args in
    let first = c.if-y-ne0 in
    rw (
      equal refl refl first.false,
      le-leb 1 s.v.0 (omega arith),
      le-leb s.v.0 s.flat (omega arith),
      equal
          c.page_of.ensures c.flat_page.ensures c.if-page_of-flat_page.false,
    )
    (same-eqb c.rights.ensures refl)
