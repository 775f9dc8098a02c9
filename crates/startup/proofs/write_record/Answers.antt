-- `startup::write_record` meets its contract. The width is that of the memory, and the verdict that of the judge. Assumes nothing.
use Rattle.startup.proofs.write_record.Goals as goal

pub write-requires : goal.write-requires
write-requires c = record { tested = rw c.width-b.ensures c.is_sound-good.ensures }

pub returns : goal.returns
returns c = rw c.width-b.ensures at c.write.ensures
