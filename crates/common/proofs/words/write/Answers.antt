-- `common::words::write` meets its contract. Past the end nothing is set. Assumes nothing.
use mathlib.Core.Path.{sym}
use lib.Seq.{set_out}
use Rattle.common.proofs.words.write.Goals as goal

pub returns-else-i-m : goal.returns-else-i-m
returns-else-i-m c = sym (set_out _ _ _ c.if-i-m.false)
