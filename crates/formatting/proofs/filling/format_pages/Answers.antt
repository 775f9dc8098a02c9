-- `formatting::filling::format_pages` meets its contract. The pages passed are formatted, and those behind them as they were, wiped.
-- Assumes nothing.
use mathlib.Core.Path.{ap, ◌∙◌}
use Prim.Native.Nat.{◌+◌, ◌-◌}
use native.Mathlib.Omega.{arith}
use lib.ListN.{length-take, length}
use borrow.Author.Rules.{rules}
use Rattle.formatting.proofs.FillLaws.{formatted-none, formatted-more, formatted-long, formatted-all, behind-wiped}
use Rattle.formatting.proofs.SizeLaws.{first-inside, page-inside, page-long}
use Rattle.formatting.proofs.filling.format_pages.Goals as goal

pub loop-p-init : goal.loop-p-init
loop-p-init c =
    let z = c.args.z.now in
    (formatted-none z.width.bits z.pages c.args.m.now, search rules)

pub slice_bounds-format_page-end : goal.slice_bounds-format_page-end
slice_bounds-format_page-end c =
    let z = c.args.z.now in
    let h = c.requires in
    let i = page-inside z.width.bits c.loop-p.p z.pages (omega (arith, first-inside z.width.bits z.pages z.width.known.0 h.pages.0, z.counted)) in
    omega arith

pub format_page-requires : goal.format_page-requires
format_page-requires c =
    let z = c.args.z.now in
    let h = c.requires in
    let p = c.loop-p in
    let first = first-inside z.width.bits z.pages z.width.known.0 h.pages.0 in
    let l = page-long z.width.bits p.p in
    let a = c.index-a in
    let e = c.index-e in
    let w = behind-wiped z.width.bits z.pages c.args.m.now p.m p.p a.result (e.result - a.result) a.ensures.0 p.invariant.0 h.wiped in
    record { pages = (omega arith, omega arith, omega (arith, first, z.counted), simp length-take (omega arith)); wiped = w }

pub loop-p-preserved : goal.loop-p-preserved
loop-p-preserved c =
    let z = c.args.z.now in
    let h = c.requires in
    let p = c.loop-p in
    let a = c.index-a in
    let e = c.index-e in
    let format-page = c.format_page in
    let i = page-inside z.width.bits p.p z.pages (omega (arith, first-inside z.width.bits z.pages z.width.known.0 h.pages.0, z.counted)) in
    let q = formatted-more z.width.bits z.pages c.args.m.now p.m format-page.new.s p.p a.result e.result a.ensures.0 e.ensures.0
    (omega arith) p.invariant.0 format-page.ensures in
    (q, ap length q ∙ formatted-long z.width.bits z.pages c.args.m.now (p.p + 1) (omega arith))

pub returns : goal.returns
returns c =
    let z = c.args.z.now in
    let h = c.requires in
    let p = c.loop-p in
    let first = first-inside z.width.bits z.pages z.width.known.0 h.pages.0 in
    p.invariant.0 ∙ formatted-all z.width.bits z.pages c.args.m.now p.p h.pages.2 (omega (arith, first, z.counted)) (omega (arith, z.counted)) h.wiped
