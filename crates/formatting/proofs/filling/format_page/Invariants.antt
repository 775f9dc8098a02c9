-- `formatting::filling::format_page` meets its contract. The words passed are those of the page, and those behind them as they were, 0. Assumes nothing.
use mathlib.Core.List.{◌++◌}
use mathlib.Core.Path.{◌≡◌}
use lib.ListN.{length, drop}
use Rattle.memory.specs.Format.{format_word}
use Rattle.memory.specs.Words.{tabulate}
use Rattle.formatting.proofs.filling.format_page.Given as goal

abbrev pub invariant-loop-i : goal.invariant-loop-i
invariant-loop-i l = (l.s ≡ tabulate 0 l.i (format_word l.z.width.bits l.z.pages l.p.0) ++ drop l.i l.initial.s) × (length l.s ≡ length l.initial.s)
