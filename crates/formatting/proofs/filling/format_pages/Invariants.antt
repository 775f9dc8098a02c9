-- `formatting::filling::format_pages` meets its contract. The pages passed are formatted, and those behind them as they were, wiped. Assumes nothing.
use mathlib.Core.Path.{◌≡◌}
use lib.ListN.{length}
use Rattle.formatting.proofs.FillLaws.{formatted}
use Rattle.formatting.proofs.filling.format_pages.Given as goal

abbrev pub invariant-loop-p : goal.invariant-loop-p
invariant-loop-p l = (l.m ≡ formatted l.z.width.bits l.z.pages l.initial.m l.p) × (length l.m ≡ length l.initial.m)
