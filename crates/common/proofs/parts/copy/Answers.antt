-- `common::parts::copy` meets its contract. Assumes nothing.
use mathlib.Core.Path.{ap, ◌∙◌}
use mathlib.Core.List.{List, ◌++◌}
use Prim.Native.Nat.{ℕ}
use lib.ListN.{drop}
use Rattle.common.proofs.Overwrite.{copied}
use Rattle.common.proofs.parts.copy.Goals as goal

pub returns : goal.returns
returns c =
    let n = c.min-n.result in
    ap (λ (l : List ℕ). l ++ drop n c.args.s.now) c.copy_from_slice.ensures.after ∙ copied c.args.s.now c.args.ws.now n c.min-n.ensures
