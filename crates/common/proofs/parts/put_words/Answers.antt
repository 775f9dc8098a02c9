-- `common::parts::put_words` meets its contract. The part that was lent comes back written, and the words around it as they were. Assumes nothing.
use mathlib.Core.Path.{ap, ◌∙◌}
use mathlib.Core.List.{List, ◌++◌}
use Prim.Native.Nat.{ℕ, ◌-◌}
use native.Mathlib.Nat.{le_refl}
use native.Mathlib.Omega.{arith}
use lib.ListN.{length, take, drop}
use Rattle.common.proofs.Overwrite.{part-back}
use Rattle.common.proofs.parts.put_words.Goals as goal

pub returns : goal.returns
returns c =
    let a = c.min-a.result in
    let s = c.args in
    let e = c.min-e.result in
    ap (λ (l : List ℕ). take a s.m.now ++ (l ++ drop (e - a) (drop a s.m.now))) c.copy.ensures
    ∙ part-back s.m.now s.i (length s.ws.now) a e s.ws.now (le_refl (length s.ws.now)) (omega arith) (omega arith)
