-- `judge::root::root_test` meets its contract. Assumes nothing.
use mathlib.Core.Bool.{not}
use mathlib.Core.Path.{ap}
use Rattle.own_pages.proofs.Laws.Tests.{yes, no}
use Rattle.soundness.specs.Test.{root_test}
use Rattle.judge.proofs.root.root_test.Goals as goal

pub returns-then-not-root_pages : goal.returns-then-not-root_pages
unfolding root_test
returns-then-not-root_pages c = rw (no c.root_pages.ensures (ap not c.if-not-root_pages.true))

pub returns : goal.returns
unfolding root_test
returns c = rw (yes c.root_pages.ensures (ap not c.if-not-root_pages.false)) c.root_map.ensures
