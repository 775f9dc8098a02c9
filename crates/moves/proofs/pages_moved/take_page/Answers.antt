-- `moves::pages_moved::take_page` meets its contract. Wiped, and then marked. Assumes nothing.
use mathlib.Core.Path.{ap, ◌∙◌}
use mathlib.Core.List.{List}
use Prim.Native.Nat.{ℕ}
use Rattle.rules.specs.Moves.{mark, take_page}
use Rattle.moves.proofs.pages_moved.take_page.Goals as goal

pub returns : goal.returns
unfolding take_page
returns c =
    let wipe-at = c.wipe_at in
    let s = c.args in
    c.mark.ensures ∙ ap (λ (x : List ℕ). mark s.b.bits 9 0 x s.d.0 s.a) wipe-at.ensures
