-- `collecting::collecting::any_word` meets its contract. Assumes nothing.
use borrow.Author.Tests.{tests}
use Rattle.std.proofs.Common.{rules}
use Rattle.std.proofs.lemmas.Iterator.{YieldsList-from_slice}
use Rattle.std.proofs.lemmas.Iterator.Search.{any_from_yields_List}
use Rattle.moves.proofs.Groups.{any_is}
use Rattle.collecting.proofs.collecting.any_word.Goals as goal

pub returns : goal.returns
returns c =
    rw any_is (any_from_yields_List _ _ _ _ c.any.ensures.ran (YieldsList-from_slice c.args.s.now cc) (λ x b q k. search (rules, tests)))
