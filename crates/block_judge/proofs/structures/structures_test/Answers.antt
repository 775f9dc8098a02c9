-- `block_judge::structures::structures_test` meets its contract. Assumes nothing.
use Rattle.std.proofs.Common.{refl, sym, ◌∙◌, rules, tests}
use Rattle.std.proofs.lemmas.Iterator.{YieldsList-from_range}
use Rattle.std.proofs.lemmas.Iterator.Search.{all_from_yields_List}
use Rattle.common.proofs.Chains.{stops, then}
use Rattle.block_soundness.specs.Test.{structures_test}
use Rattle.block_layout.proofs.Ranges.{all_tested}
use Rattle.block_judge.proofs.Sentences.{good_structure}
use Rattle.block_judge.proofs.structures.structures_test.Goals as goal

pub returns-then-first_structure_test : goal.returns-then-first_structure_test
unfolding structures_test
returns-then-first_structure_test c =
    let s = c.args in
    let f = good_structure s.m.now s.d in
    all_tested f 16 1 (all_from_yields_List f _ _ _ c.all.ensures.ran (YieldsList-from_range 1 17 16 refl refl) (λ x b q k. search (rules, tests)))
    ∙ sym (then (sym c.first_structure_test.ensures ∙ c.if-first_structure_test.true) refl)

pub returns-else-first_structure_test : goal.returns-else-first_structure_test
unfolding structures_test
returns-else-first_structure_test c =
    c.if-first_structure_test.false ∙ sym (stops (sym c.first_structure_test.ensures ∙ c.if-first_structure_test.false) _)
