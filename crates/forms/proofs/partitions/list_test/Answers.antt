-- `forms::partitions::list_test` meets its contract. Assumes nothing.
use native.Mathlib.Omega.{arith}
use Rattle.forms.proofs.Laws.Whole.{list-many}
use Rattle.forms.proofs.partitions.list_test.Goals as goal

pub returns-then-n-gt10 : goal.returns-then-n-gt10
returns-then-n-gt10 c =
    let o = c.args.o.now in
    list-many o.width.bits o.words.now o.descriptor.0 (omega (arith, o.counted))
