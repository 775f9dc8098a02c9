-- `pages::parts::wipe_page` meets its contract. The part that is wiped is the page's. Assumes nothing.
use mathlib.Core.Path.{ap₂, ◌∙◌}
use Prim.Native.Nat.{ℕ}
use native.Mathlib.Nat.{add-zero}
use lib.ListN.{replicate}
use Rattle.memory.specs.Words.{start, overwrite, fill, wipe}
use Rattle.pages.proofs.parts.wipe_page.Goals as goal

pub returns : goal.returns
unfolding wipe fill
returns c =
    let s = c.args in
    let index = c.index in
    let size = c.page_words in
    c.wipe_words.ensures
    ∙ ap₂ (λ (i n : ℕ). overwrite s.m.now i (replicate n 0)) (index.ensures.0 ∙ add-zero (start s.b.bits s.p.0)) size.ensures.0
