-- `deleting::releases::release_run` meets its contract. To release the pages left is to release them all. Assumes nothing.
use mathlib.Core.List.{List}
use mathlib.Core.Path.{sym, ◌∙◌, ap}
use Prim.Native.Nat.{◌+◌, ◌-◌, ℕ}
use native.Mathlib.Omega.{arith}
use Rattle.rules.proofs.Releases.{release_all-more, release_all-none, page-address-fits, releasing}
use Rattle.rules.specs.Effects.{release_all}
use Rattle.deleting.proofs.releases.release_run.Goals as goal

pub address_of-requires : goal.address_of-requires
address_of-requires c =
    record { fits = page-address-fits c.args.b.bits (c.args.v.0 + c.loop-k.k) c.args.b.known.1 (omega arith) }

pub loop-k-preserved : goal.loop-k-preserved
loop-k-preserved c =
    let s = c.args in
    let p = c.loop-k in
    let e = c.release_if.ensures ∙ ap (λ (a : ℕ). releasing s.b.bits p.m s.d.0 a s.c) c.address_of.ensures in
    ap (λ (x : List ℕ). release_all s.b.bits (s.n - (p.k + 1)) (s.v.0 + (p.k + 1)) x s.d.0 s.c) e
    ∙ sym (release_all-more s.b.bits s.d.0 s.c p.m s.n s.v.0 p.k (omega arith))
    ∙ p.invariant

pub returns : goal.returns
returns c =
    let s = c.args in
    let p = c.loop-k in
    sym (release_all-none s.b.bits s.d.0 s.c p.m (s.n - p.k) (s.v.0 + p.k) (omega arith)) ∙ p.invariant
