-- `forms::threes::Listed::place` meets its contract. Assumes nothing.
use native.Mathlib.Omega.{arith}
use Rattle.own_pages.specs.Asked.{listed_as}
use Rattle.forms.proofs.Laws.Met.{sole_none, sole-two, sole-one}
use Rattle.forms.proofs.Laws.Whole.{list-few}
use Rattle.forms.proofs.threes.Listed.place.Goals as goal

pub returns-in_err-j : goal.returns-in_err-j
returns-in_err-j c =
    let o = c.args.self.now.own in
    let t = c.args.t in
    rw c.from_residual.ensures (sole_none (listed_as o.width.bits o.words.now o.descriptor.0 t.0 t.1 t.2) o.threes c.in_err-j.ensures)

pub overflow_add-j : goal.overflow_add-j
overflow_add-j c =
    let o = c.args.self.now.own in
    omega (arith, c.in_ok-j.ensures, o.counted, list-few o.width.bits o.words.now o.descriptor.0 c.args.self.now.passed)

pub returns-in-None : goal.returns-in-None
returns-in-None c =
    let o = c.args.self.now.own in
    let t = c.args.t in
    sole-one (listed_as o.width.bits o.words.now o.descriptor.0 t.0 t.1 t.2) o.threes c.in_ok-j.ensures c.in-None.ensures

pub returns-in-Some : goal.returns-in-Some
returns-in-Some c =
    let o = c.args.self.now.own in
    let t = c.args.t in
    sole-two (listed_as o.width.bits o.words.now o.descriptor.0 t.0 t.1 t.2) o.threes c.in_ok-j.ensures c.in-Some.ensures
