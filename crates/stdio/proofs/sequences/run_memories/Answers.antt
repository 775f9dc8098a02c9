use Rattle.stdio.proofs.Taking.{loses-all, loses-none}
use Rattle.stdio.proofs.sequences.run_memories.Goals as goal

pub loop-k-init : goal.loop-k-init
loop-k-init g c = (0, loses-none _)

pub returns-then-n-eq0 : goal.returns-then-n-eq0
returns-then-n-eq0 g c = record { rest = loses-all _ _ _ c.loop-k.invariant (1, c.in_ok-n.ensures.rest) }

pub loop-k-preserved : goal.loop-k-preserved
loop-k-preserved g c = loses-all _ _ _ c.loop-k.invariant (loses-all _ _ _ (1, c.in_ok-n.ensures.rest) c.in_ok-run_parts.ensures.rest)

pub returns : goal.returns
returns g c = record { rest = c.loop-k.invariant }
