-- `forms::indices::row_empty` meets its contract. Assumes nothing.
use mathlib.Core.Path.{◌≡◌, refl, sym, ap}
use Prim.Native.Nat.{ℕ, ◌+◌, ◌-◌}
use native.Mathlib.Omega.{arith}
use Rattle.walk.specs.Finite.{from, all}
use Rattle.memory.proofs.Widths.{words-most}
use Rattle.own_pages.specs.Asked.{no_tables}
use Rattle.own_pages.proofs.Laws.Loops.{all_end}
use Rattle.own_pages.proofs.Laws.Runs.{join_more, join-end}
use Rattle.forms.proofs.indices.row_empty.Goals as goal

pub overflow_add-k-end : goal.overflow_add-k-end
overflow_add-k-end c = let b = c.args.o.now.width in omega (arith, words-most b.bits b.known.1)

pub loop-k-init : goal.loop-k-init
loop-k-init c =
    let o = c.args.o.now in
    let e : 8 ≡ c.args.i + 8 - c.args.i = omega arith in
    ap (λ (x : ℕ). all (no_tables o.width.bits o.words.now o.descriptor.0) (from x c.args.i)) e

pub loop-k-preserved : goal.loop-k-preserved
loop-k-preserved c =
    let o = c.args.o.now in
    let p = c.loop-k in
    join_more (no_tables o.width.bits o.words.now o.descriptor.0) (c.args.i + 8) p.k p.joined c.joined_at-joined.result (omega arith)
    c.joined_at-joined.ensures p.invariant

pub returns : goal.returns
returns c =
    let o = c.args.o.now in
    let p = c.loop-k in
    let f = no_tables o.width.bits o.words.now o.descriptor.0 in
    join-end f (c.args.i + 8) p.k p.joined (sym (all_end f (c.args.i + 8) p.k (omega arith) refl)) p.invariant
