use Rattle.std.proofs.Common.{rules}
use Rattle.replay.proofs.Writing.{writes}
use Rattle.replay.proofs.replay.Goals as goal

pub returns : goal.returns
returns g c = writes _ _ _ _ _ _ _ _ _ (search rules) c.in_ok-n.ensures.front c.replay-r.ensures.0 c.replay-r.ensures.1 c.write_all.ensures.bytes
