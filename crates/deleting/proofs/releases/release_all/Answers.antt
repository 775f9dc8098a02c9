-- `deleting::releases::release_all` meets its contract. To release the tables left, from the memory as it is, is to release them all. Assumes nothing.
use mathlib.Core.Path.{sym, ap, ◌∙◌}
use mathlib.Core.List.{List}
use Prim.Native.Nat.{ℕ, ◌+◌}
use native.Mathlib.Omega.{arith}
use Rattle.rules.proofs.Releases.{release_from, release_from-start, release_from-more, release_from-end}
use Rattle.deleting.proofs.releases.release_all.Goals as goal

pub loop-i-preserved : goal.loop-i-preserved
loop-i-preserved c =
    let s = c.args in
    let p = c.loop-i in
    ap (λ (x : List ℕ). release_from s.b.bits s.d.0 s.c (p.i + 1) x) c.release_table.ensures
    ∙ sym (release_from-more s.b.bits s.d.0 s.c p.m p.i (omega arith))
    ∙ p.invariant

pub returns : goal.returns
returns c =
    let s = c.args in
    let p = c.loop-i in
    sym (release_from-end s.b.bits s.d.0 s.c p.m p.i (omega arith)) ∙ p.invariant ∙ release_from-start s.b.bits s.d.0 s.c s.m.now
