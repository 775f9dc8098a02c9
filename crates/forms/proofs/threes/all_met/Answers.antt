-- `forms::threes::all_met` meets its contract. Assumes nothing.
use mathlib.Core.Path.{◌∙◌}
use native.Mathlib.Omega.{arith}
use lib.Dec.{eqb}
use lib.ListN.{take}
use Rattle.std.proofs.Common.{rules, tests}
use Rattle.std.proofs.lemmas.Iterator.{YieldsList-from_slice}
use Rattle.std.proofs.lemmas.Iterator.Search.{all_from_yields_List}
use Rattle.own_pages.proofs.Laws.Loops.{all_items}
use Rattle.forms.proofs.threes.all_met.Goals as goal

pub returns : goal.returns
returns c =
    let m = c.args.met.now in
    all_from_yields_List (λ x. eqb x 1) _ _ _ c.all.ensures.ran (YieldsList-from_slice (take c.args.n m) cc) (λ x b q k. search (rules, tests))
    ∙ all_items (λ x. eqb x 1) m c.args.n 0 (omega arith)
