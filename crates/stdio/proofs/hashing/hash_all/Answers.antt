use Rattle.std.proofs.Common.{rules}
use Rattle.stdio.specs.Hash.{mixed}
use Rattle.stdio.proofs.hashing.hash_all.Goals as goal

pub returns : goal.returns
returns g c = let r = c.fold.ensures.runs in (r.0, r.1, r.2, r.3 mixed (search rules))
