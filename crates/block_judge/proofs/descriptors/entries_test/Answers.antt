-- `block_judge::descriptors::entries_test` meets its contract. Assumes nothing.
use Rattle.std.proofs.Common.{refl, rules, tests}
use Rattle.std.proofs.lemmas.Iterator.{YieldsList-from_range}
use Rattle.std.proofs.lemmas.Iterator.Search.{all_from_yields_List}
use Rattle.block_soundness.specs.Test.{entries_test}
use Rattle.block_layout.proofs.Ranges.{all_tested}
use Rattle.block_judge.proofs.Sentences.{good_entry}
use Rattle.block_judge.proofs.descriptors.entries_test.Goals as goal

pub returns : goal.returns
unfolding entries_test
returns c =
    let s = c.args in
    let f = good_entry s.m.now s.d in
    all_tested f 8 1 (all_from_yields_List f _ _ _ c.all.ensures.ran (YieldsList-from_range 1 9 8 refl refl) (λ x b q k. search (rules, tests)))
