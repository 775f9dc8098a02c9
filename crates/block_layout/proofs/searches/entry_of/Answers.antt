-- `block_layout::searches::entry_of` meets its contract. Assumes nothing.
use Rattle.std.proofs.Common.{◌≡◌, refl, ◌∙◌, arith, rules, tests}
use Rattle.std.proofs.lemmas.Iterator.{YieldsList-from_range}
use Rattle.std.proofs.lemmas.Iterator.Search.{find_from_yields_List}
use Rattle.block_memory.specs.Partition.{entry_of}
use Rattle.block_layout.proofs.Finding.{entry_is}
use Rattle.block_layout.proofs.Ranges.{lowest_found, lowest_below}
use Rattle.block_layout.proofs.searches.entry_of.Goals as goal

pub returns : goal.returns
unfolding entry_of
returns c =
    let s = c.args in
    let f = entry_is s.m.now s.d s.n in
    let e : c.unwrap_or.result ≡ entry_of s.m.now s.d s.n =
    c.unwrap_or.ensures ∙ lowest_found f 8 1 c.find.result
    (find_from_yields_List f _ _ c.find.result c.find.ensures.ran (YieldsList-from_range 1 9 8 refl refl) (λ x b q k. search (rules, tests))) in
    (e, omega (arith, e, lowest_below f 8 1))
