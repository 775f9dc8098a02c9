-- `pages::parts::words_of` meets its contract. Assumes nothing.
use Rattle.pages.proofs.Slices.{part-is}
use Rattle.memory.specs.Geometry.{page_words}
use lib.ListN.{length}
use native.Mathlib.Omega.{arith}
use mathlib.Core.Path.{ap, ◌∙◌}
use Prim.Native.Nat.{ℕ, min, ◌+◌, ◌*◌}
use Rattle.pages.proofs.parts.words_of.Goals as goal

pub returns : goal.returns
returns c =
    let index = c.index in
    let s = c.args in
    part-is s.m.now (s.p.0 * page_words s.b.bits) (page_words s.b.bits)
    (c.min-a.ensures ∙ ap (λ (x : ℕ). min x (length s.m.now)) (index.ensures.0 ∙ omega arith))
    (c.min-e.ensures ∙ ap (λ (x : ℕ). min x (length s.m.now)) (c.index-2.ensures.0 ∙ ap (λ (x : ℕ). s.p.0 * page_words s.b.bits + x) c.page_words.ensures.0))
