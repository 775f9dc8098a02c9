-- `moves::pages_moved::return_page` meets its contract. A kernel page is wiped and then marked, another one wiped where that is due. Assumes nothing.
use mathlib.Core.Path.{sym, ap, ◌∙◌}
use mathlib.Core.List.{List}
use Prim.Native.Nat.{ℕ}
use Rattle.memory.specs.Entry.{write_right, holds}
use Rattle.rules.specs.Moves.{mark}
use Rattle.rules.proofs.Releases.{return_kernel, return_other}
use Rattle.moves.proofs.pages_moved.return_page.Goals as goal

pub returns-then-kernel : goal.returns-then-kernel
returns-then-kernel c =
    let s = c.args in
    c.mark.ensures
    ∙ ap (λ (x : List ℕ). mark s.b.bits 9 1 x s.d.0 s.a) c.wipe_at.ensures
    ∙ sym (return_kernel s.b.bits s.m.now s.d.0 s.a c.if-kernel.true)

pub returns-then-has_rights : goal.returns-then-has_rights
returns-then-has_rights c =
    let s = c.args in
    let e = ap (holds write_right) (sym c.mapping.ensures) ∙ sym c.has_rights.ensures ∙ c.if-has_rights.true in
    c.wipe_at-then-has_rights.ensures ∙ sym (return_other s.b.bits s.m.now s.d.0 s.a c.if-kernel.false e)

pub returns-else-has_rights : goal.returns-else-has_rights
returns-else-has_rights c =
    let s = c.args in
    let e = ap (holds write_right) (sym c.mapping.ensures) ∙ sym c.has_rights.ensures ∙ c.if-has_rights.false in
    sym (return_other s.b.bits s.m.now s.d.0 s.a c.if-kernel.false e)
