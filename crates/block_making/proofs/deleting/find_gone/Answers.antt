-- `block_making::deleting::find_gone` meets its contract: the blocks that are left mark what all mark. Assumes nothing.
use mathlib.Core.Path.{◌∙◌}
use native.Mathlib.Omega.{arith}
use lib.ListN.{length, get_or}
use Rattle.block_making.proofs.Places.{still-none, all-marked}
use Rattle.block_making.proofs.deleting.find_gone.Goals as goal

pub returns : goal.returns
returns c =
    let s = c.args in
    let p = c.loop-n in
    all-marked s.m.now s.d s.ns.now p.out (length s.out.now) (omega arith)
    (λ j l. still-none s.m.now s.d s.ns.now p.n-index j (get_or p.out j 0) (omega arith) ∙ p.invariant j l)
