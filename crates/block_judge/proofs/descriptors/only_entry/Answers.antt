-- `block_judge::descriptors::only_entry` meets its contract. Assumes nothing.
use Rattle.std.proofs.Common.{refl, rules, tests}
use Rattle.std.proofs.lemmas.Iterator.{YieldsList-from_range}
use Rattle.std.proofs.lemmas.Iterator.Search.{all_from_yields_List}
use Rattle.block_layout.proofs.Ranges.{all_tested}
use Rattle.block_judge.proofs.Sentences.{differs}
use Rattle.block_judge.proofs.descriptors.only_entry.Goals as goal

pub returns : goal.returns
returns c =
    let s = c.args in
    let f = differs s.m.now s.d s.e s.n in
    all_tested f 8 1 (all_from_yields_List f _ _ _ c.all.ensures.ran (YieldsList-from_range 1 9 8 refl refl) (λ x b q k. search (rules, tests)))
