-- `record::writer::end_of` meets its contract. A sound memory has so few pages that the address fits. Assumes nothing.
use mathlib.Core.Path.{ap, ◌∙◌}
use Prim.Native.Nat.{ℕ, ◌+◌}
use native.Mathlib.Omega.{arith}
use Rattle.memory.specs.Geometry as Geometry
use Rattle.record.proofs.Sizes.{end_fits}
use Rattle.record.proofs.writer.end_of.Goals as goal

pub address_of-requires : goal.address_of-requires
address_of-requires c =
    let h = c.requires in
    let s = c.args in
    let e = c.flat_pages-f.ensures ∙ ap (Geometry.flat_pages s.b.bits) c.pages.ensures in
    record { fits = end_fits s.b.bits s.m.now s.b.known.1 h.sound _ (omega (arith, e)) }

pub returns : goal.returns
returns c =
    let s = c.args in
    c.address_of.ensures ∙ ap (λ (n : ℕ). Geometry.address s.b.bits (n + 1))
    (c.flat_pages-f.ensures ∙ ap (Geometry.flat_pages s.b.bits) c.pages.ensures)
