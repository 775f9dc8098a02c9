-- `script::arguments::argument_count` meets its contract. The table is the definition's. Assumes nothing.
use mathlib.Core.Path.{refl}
use Rattle.script.proofs.Walks.{arguments-most}
use Rattle.script.proofs.arguments.argument_count.Goals as goal

pub returns : goal.returns
returns c = (refl, arguments-most c.args.n)
