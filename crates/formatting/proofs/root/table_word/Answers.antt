-- `formatting::root::table_word` meets its contract. Each test that the code makes is one of the definition. Assumes nothing.
use mathlib.Core.Path.{ap, ◌∙◌}
use Rattle.memory.specs.Geometry.{address}
use Rattle.formatting.proofs.WordLaws.{table_none, table-after, table-maps}
use Rattle.formatting.proofs.root.table_word.Goals as goal

pub returns-then-v-eq0 : goal.returns-then-v-eq0
returns-then-v-eq0 c = let z = c.args.z.now in table_none z.width.bits z.pages z.threes z.counted c.args.v.0 c.if-v-eq0.true

pub returns-then-z-v : goal.returns-then-z-v
returns-then-z-v c =
    let z = c.args.z.now in
    table-after z.width.bits z.pages z.threes z.counted c.args.v.0 c.if-v-eq0.false c.if-z-v.true

pub returns : goal.returns
returns c =
    let z = c.args.z.now in
    let e = c.page_address-a.ensures.0 ∙ ap (address z.width.bits) c.flat_page.ensures in
    table-maps z.width.bits z.pages z.threes z.counted c.args.v.0 c.page_address-a.result c.entry_of.result
    c.if-v-eq0.false c.if-z-v.false e c.entry_of.ensures
