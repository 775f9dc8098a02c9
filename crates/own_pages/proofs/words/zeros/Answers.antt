-- `own_pages::words::zeros` meets its contract. Assumes nothing.
use mathlib.Core.Path.{refl}
use native.Mathlib.Omega.{arith}
use lib.Dec.{eqb}
use lib.ListN.{get_or}
use Rattle.own_pages.proofs.Laws.Runs.{join_more, join-end, past_end}
use Rattle.own_pages.proofs.words.zeros.Goals as goal

pub loop-i-init : goal.loop-i-init
loop-i-init c = refl

pub loop-i-preserved : goal.loop-i-preserved
loop-i-preserved c =
    let s = c.args in
    let p = c.loop-i in
    join_more (λ k. eqb (get_or s.m.now k 0) 0) s.e p.i p.joined (get_or s.m.now p.i 0) (omega arith) refl p.invariant

pub returns : goal.returns
returns c =
    let s = c.args in
    join-end (λ k. eqb (get_or s.m.now k 0) 0) s.e c.loop-i.i c.loop-i.joined (past_end s.m.now s.e c.loop-i.i (omega arith))
    c.loop-i.invariant
