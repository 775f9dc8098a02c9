-- `block_layout::searches::free_structure` meets its contract. Assumes nothing.
use Rattle.std.proofs.Common.{◌≡◌, refl, ◌∙◌, arith, rules, tests}
use Rattle.std.proofs.lemmas.Iterator.{YieldsList-from_range}
use Rattle.std.proofs.lemmas.Iterator.Search.{find_from_yields_List}
use Rattle.block_memory.specs.Partition.{free_structure}
use Rattle.block_layout.proofs.Finding.{no_structure}
use Rattle.block_layout.proofs.Ranges.{lowest_found, lowest_below}
use Rattle.block_layout.proofs.searches.free_structure.Goals as goal

pub returns : goal.returns
unfolding free_structure
returns c =
    let s = c.args in
    let f = no_structure s.m.now s.d in
    let e : c.unwrap_or.result ≡ free_structure s.m.now s.d =
    c.unwrap_or.ensures ∙ lowest_found f 16 1 c.find.result
    (find_from_yields_List f _ _ c.find.result c.find.ensures.ran (YieldsList-from_range 1 17 16 refl refl) (λ x b q k. search (rules, tests))) in
    (e, omega (arith, e, lowest_below f 16 1))
