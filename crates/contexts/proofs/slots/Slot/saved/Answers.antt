-- `contexts::slots::Slot::saved` meets its contract. Assumes nothing.
use mathlib.Core.Path.{◌∙◌}
use Prim.Native.Nat.{◌*◌}
use native.Mathlib.Omega.{arith}
use Rattle.memory.specs.Contexts.{slot_words, saved_words}
use Rattle.memory.proofs.Widths.{words-least}
use Rattle.contexts.proofs.SavedWords.{saved-words}
use Rattle.contexts.proofs.slots.Slot.saved.Goals as goal

pub returns : goal.returns
returns c =
    let s = c.args in
    let p = s.self in
    c.save.ensures.0 ∙ saved-words s.b.bits s.m.now p.page.0 (slot_words * p.number) saved_words (omega (arith, p.known, words-least s.b.bits s.b.known.0))
