use Rattle.std.proofs.Common.{rules}
use Rattle.assemble.proofs.Writing.{writes_script, writes_message}
use Rattle.assemble.proofs.assemble.Goals as goal

pub returns-clause-script : goal.returns-clause-script
returns-clause-script g c =
    writes_script _ _ _ _ _ _ _ _ _ (search rules) c.in_ok-n.ensures.front c.assemble-a.ensures.0 c.script_length-s.ensures c.in_ok-write_all.ensures.bytes

pub returns-clause-said : goal.returns-clause-said
returns-clause-said g c =
    writes_message _ _ _ _ _ _ _ _ _ _ _ (search rules) c.in_ok-n.ensures.front c.assemble-a.ensures.0 c.put_message-m.ensures.0 c.put_message-m.ensures.1 c.write_all-2.ensures.bytes
