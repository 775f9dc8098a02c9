-- `judge::children::child_of` meets its contract. Assumes nothing.
use mathlib.Core.Path.{ap, ◌∙◌}
use Rattle.memory.specs.Geometry.{page_of}
use Rattle.memory.specs.Counts.{child_of}
use Rattle.judge.proofs.children.child_of.Goals as goal

pub returns : goal.returns
unfolding child_of
returns c = c.page_of.ensures ∙ ap (page_of c.args.b.bits) c.mapping.ensures
