-- `formatting::filling::format_effect` meets its contract. The memory is wiped, and then its pages formatted. Assumes nothing.
use mathlib.Core.Path.{sym, ap, ap₂, ◌∙◌}
use Prim.Native.Nat.{ℕ, ◌*◌}
use native.Mathlib.Omega.{arith}
use lib.ListN.{length, get_or, length-replicate}
use Rattle.memory.specs.Format.{format}
use Rattle.memory.specs.Geometry.{page_words}
use Rattle.formatting.proofs.FillLaws.{wiped-all}
use Rattle.formatting.proofs.SizeLaws.{size-right, size_bounds}
use Rattle.formatting.proofs.filling.format_effect.Goals as goal

pub overflow_cast-pages_in : goal.overflow_cast-pages_in
overflow_cast-pages_in c =
    let s = c.args in
    omega (arith, size_bounds s.b.bits s.m.now s.b.known.1 c.requires.sized)

pub format_pages-requires : goal.format_pages-requires
format_pages-requires c =
    let s = c.args in
    let h = c.requires.sized in
    let z = c.of-z.result in
    let n = c.of-z.ensures.1 ∙ c.pages_in.ensures in
    let e = c.fill.ensures.after (λ y q. q) in
    let k = size_bounds s.b.bits s.m.now s.b.known.1 h in
    let l = ap length e ∙ length-replicate (length s.m.now) 0 ∙ (size-right s.b.bits s.m.now h).0
    ∙ ap₂ (λ (x b : ℕ). x * page_words b) (sym n) (sym c.of-z.ensures.0) in
    record { pages = (omega (arith, k, n), omega (arith, k, n), l); wiped = λ i. ap (λ l. get_or l i 0) e ∙ wiped-all (length s.m.now) i }

pub returns : goal.returns
returns c = c.format_pages.ensures ∙ ap₂ format c.of-z.ensures.0 (c.of-z.ensures.1 ∙ c.pages_in.ensures)
