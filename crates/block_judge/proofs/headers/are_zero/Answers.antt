-- `block_judge::headers::are_zero` meets its contract. Assumes nothing.
use Rattle.std.proofs.Common.{refl, rules, tests}
use Rattle.std.proofs.lemmas.Iterator.{YieldsList-from_range}
use Rattle.std.proofs.lemmas.Iterator.Search.{all_from_yields_List}
use Rattle.std.proofs.Common.{◌+◌, arith}
use Rattle.block_layout.proofs.Ranges.{all_tested}
use Rattle.block_judge.proofs.Sentences.{zero_at}
use Rattle.block_judge.proofs.headers.are_zero.Goals as goal

pub returns : goal.returns
returns c =
    let s = c.args in
    let f = zero_at s.m.now s.d in
    all_tested f s.n s.i
    (all_from_yields_List f _ _ _ c.all.ensures.ran (YieldsList-from_range s.i (s.i + s.n) s.n refl (omega arith)) (λ x b q k. search (rules, tests)))
