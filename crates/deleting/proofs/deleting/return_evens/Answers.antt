-- `deleting::deleting::return_evens` meets its contract. To return the pairs left, from the memory as it is, is to return them all. The measure is what is
-- left. Assumes nothing.
use mathlib.Core.Path.{◌≡◌, sym, ap, ◌∙◌}
use mathlib.Core.Bool.{true}
use mathlib.Core.List.{List}
use Prim.Native.Nat.{ℕ, ◌+◌, ◌<◌}
use native.Mathlib.Omega.{arith}
use lib.ListN.{length, get_or, drop}
use Rattle.rules.specs.Effects.{evens}
use Rattle.rules.specs.Moves.{return_page, return_all}
use Rattle.deleting.proofs.Delete.{return_evens_more, return_evens_end}
use Rattle.deleting.proofs.deleting.return_evens.Goals as goal

-- one turn, from the memory m to m'
turn : (b d i : ℕ) (ws m m' : List ℕ) → i < length ws → m' ≡ return_page b true m d (get_or ws i 0)
    → return_all b m' d (evens (drop (i + 2) ws)) ≡ return_all b m d (evens (drop i ws))
turn b d i ws m m' h e = ap (λ (x : List ℕ). return_all b x d (evens (drop (i + 2) ws))) e ∙ sym (return_evens_more b m d ws i h)

pub loop-i-preserved : goal.loop-i-preserved
loop-i-preserved c =
    let s = c.args in
    let p = c.loop-i in
    turn s.b.bits s.d.0 p.i s.ws.now p.m c.return_page.new.m (omega arith) c.return_page.ensures ∙ p.invariant

-- the last turn, behind which no other is
pub returns-2 : goal.returns-2
returns-2 c =
    let s = c.args in
    let p = c.loop-i in
    sym (return_evens_end s.b.bits c.return_page.new.m s.d.0 s.ws.now (p.i + 2) (omega arith))
    ∙ turn s.b.bits s.d.0 p.i s.ws.now p.m c.return_page.new.m (omega arith) c.return_page.ensures ∙ p.invariant
