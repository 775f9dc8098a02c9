-- `block_making::deleting::delete_with` meets its contract. Assumes nothing.
use mathlib.Core.Path.{ap, ◌∙◌}
use native.Mathlib.Omega.{arith}
use Rattle.block_making.specs.Deleting.{gone}
use Rattle.block_making.proofs.Gone.{deleted}
use Rattle.block_making.proofs.deleting.delete_with.Goals as goal

pub find_gone-requires : goal.find_gone-requires
find_gone-requires c = (c.requires.0.table, omega arith, c.requires.3)

pub returns : goal.returns
returns c =
    let m = c.args.m.now in
    let ns = c.find_back-ns in
    let ts = c.find_gone.ensures ∙ ap (gone m c.args.d ns.result.now) c.requires.2 in
    deleted m c.requires.0 c.args.d c.args.c c.requires.1 ns.ensures ts c.wipe_gone.ensures c.give_all_back.ensures
