-- `block_layout::searches::all_free` meets its contract. Assumes nothing.
use Rattle.std.proofs.Common.{refl, rules, tests}
use Rattle.std.proofs.lemmas.Iterator.{YieldsList-from_range}
use Rattle.std.proofs.lemmas.Iterator.Search.{all_from_yields_List}
use Rattle.block_layout.proofs.Finding.{free_in}
use Rattle.block_layout.proofs.Ranges.{all_tested}
use Rattle.block_layout.proofs.searches.all_free.Goals as goal

pub returns : goal.returns
returns c =
    let s = c.args in
    let f = free_in s.m.now s.d s.k in
    all_tested f 8 0 (all_from_yields_List f _ _ _ c.all.ensures.ran (YieldsList-from_range 0 8 8 refl refl) (λ x b q k. search (rules, tests)))
