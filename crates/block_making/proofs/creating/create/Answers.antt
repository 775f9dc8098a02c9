-- `block_making::creating::create` meets its contract: where nothing is refused the memory is sound, so that the level is small. Assumes nothing.
use Rattle.block_rules.specs.Call.{create}
use Rattle.block_making.proofs.Making.{small}
use Rattle.block_making.proofs.creating.create.Goals as goal

pub create_effect-requires : goal.create_effect-requires
create_effect-requires c = let s = c.args in small s.m.now (create s.b) c.in_ok-create_refusal.ensures c.current-d.ensures
