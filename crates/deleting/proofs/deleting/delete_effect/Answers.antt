-- `deleting::deleting::delete_effect` meets its contract. The words saved are those that the definition reads. Assumes nothing.
use Prim.Native.Nat.{ℕ}
use native.Mathlib.Omega.{arith}
use lib.ListN.{replicate}
use Rattle.deleting.proofs.Delete.{saved-part, effect_is}
use Rattle.deleting.proofs.deleting.delete_effect.Goals as goal

pub returns : goal.returns
returns c =
    let s = c.args in
    let x = c.save-x in
    let y = c.save-y in
    effect_is s.b.bits s.m.now s.c
    c.current-d.ensures c.child_of-k.ensures c.list-l.ensures c.listed_words-n.ensures.0
    (saved-part (replicate {A = ℕ} 10 0) x.new.buffer _ x.result x.ensures.0 x.ensures.1 (omega arith))
    (saved-part (replicate {A = ℕ} 60 0) y.new.buffer _ y.result y.ensures.0 y.ensures.1
    (omega (arith, y.ensures.2, c.listed_words-n.ensures.1)))
    c.release_all.ensures c.set_lent.ensures c.return_evens.ensures c.return_evens-2.ensures
