-- `threes::lists::three_place` meets its contract. The places passed have another table. Assumes nothing.
use mathlib.Core.Path.{◌≡◌, sym, ◌∙◌}
use Prim.Native.Nat.{◌-◌}
use native.Mathlib.Omega.{arith}
use Rattle.threes.proofs.ListLaws.{place_here, place-next, place_end, place_is}
use Rattle.threes.proofs.lists.three_place.Goals as goal

pub returns-then-read_word-a : goal.returns-then-read_word-a
returns-then-read_word-a c =
    let s = c.args in
    let p = c.loop-j in (
      sym (place_here s.b.bits s.m.now c.list-l.result.0 (c.table_for-a.result - 1) c.threes-n.result p.j c.loop-j-test.true (sym c.read_word.ensures ∙ c.if-read_word-a.true))
          ∙ p.invariant ∙ place_is s.b.bits s.m.now s.k.0 s.t c.threes-n.result c.list-l.result.0 c.table_for-a.result c.threes-n.ensures
          c.list-l.ensures c.table_for-a.ensures,
      omega arith,
    )

pub loop-j-preserved : goal.loop-j-preserved
loop-j-preserved c =
    let s = c.args in
    let p = c.loop-j in
    sym (place-next s.b.bits s.m.now c.list-l.result.0 (c.table_for-a.result - 1) c.threes-n.result p.j c.loop-j-test.true (λ q. c.if-read_word-a.false (c.read_word.ensures ∙ q)))
    ∙ p.invariant

pub returns : goal.returns
returns c =
    let table-for = c.table_for-a in
    let list = c.list-l in
    let threes = c.threes-n in
    let s = c.args in
    let p = c.loop-j in
    let e : threes.result ≡ p.j = omega arith in (
      e ∙ sym (place_end s.b.bits s.m.now list.result.0 (table-for.result - 1) threes.result p.j c.loop-j-test.false)
          ∙ p.invariant ∙ place_is s.b.bits s.m.now s.k.0 s.t threes.result list.result.0 table-for.result threes.ensures list.ensures
          table-for.ensures,
      omega arith,
    )
