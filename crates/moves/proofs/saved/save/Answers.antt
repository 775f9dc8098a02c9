-- `moves::saved::save` meets its contract. The part that is lent is the words of the page that there are. Assumes nothing.
use mathlib.Core.Path.{◌≡◌, sym, ap, ◌∙◌}
use mathlib.Core.List.{List}
use Prim.Native.Nat.{◌-◌}
use native.Mathlib.Omega.{arith}
use lib.ListN.{length, take, drop, length-take, length-drop}
use Rattle.memory.proofs.Widths.{words-least}
use Rattle.memory.specs.Words.{overwrite}
use Rattle.moves.proofs.Parts.{part_of_page}
use Rattle.moves.proofs.saved.save.Goals as goal

pub returns : goal.returns
returns c =
    let h = c.requires in
    let least = c.min-a in
    let least2 = c.min-e in
    let s = c.args in
    let a = least.result in
    let e = least2.result in
    let k : length (take (e - a) (drop a s.m.now)) ≡ e - a = simp (length-take, length-drop) (omega arith) in
    let q = part_of_page s.b.bits s.m.now s.p.0 s.i s.n a e (omega arith) (omega arith) (omega (arith, words-least s.b.bits s.b.known.0)) in
    (c.copy.ensures ∙ ap (λ (l : List _). overwrite s.buffer.now 0 l) q, sym k ∙ ap length q, omega arith)
