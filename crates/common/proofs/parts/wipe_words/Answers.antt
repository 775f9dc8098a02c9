-- `common::parts::wipe_words` meets its contract. The part that was lent comes back wiped, and the words around it as they were. Assumes nothing.
use mathlib.Core.Path.{ap, ◌∙◌}
use mathlib.Core.List.{List, ◌++◌}
use Prim.Native.Nat.{ℕ, ◌-◌, ◌≤◌}
use native.Mathlib.Omega.{arith}
use lib.ListN.{length, take, drop, replicate, length-take, length-drop, length-replicate}
use Rattle.common.proofs.Overwrite.{part-back, zeros}
use Rattle.common.proofs.parts.wipe_words.Goals as goal

pub returns : goal.returns
returns c =
    let s = c.args in
    let a = c.min-a.result in
    let e = c.min-e.result in
    let part : List ℕ = take (e - a) (drop a s.m.now) in
    let fits : length part ≤ s.n = simp (length-take, length-drop) (omega arith) in
    let short : length (replicate {A = ℕ} s.n 0) ≤ s.n = omega (arith, length-replicate {A = ℕ} s.n 0) in
    ap (λ (l : List ℕ). take a s.m.now ++ (l ++ drop (e - a) (drop a s.m.now))) (c.fill.ensures.after (λ y e. e) ∙ zeros part s.n fits)
    ∙ part-back s.m.now s.i s.n a e (replicate s.n 0) short (omega arith) (omega arith)
