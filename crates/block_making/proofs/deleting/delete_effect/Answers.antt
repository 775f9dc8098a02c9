-- `block_making::deleting::delete_effect` meets its contract: the table of a sound memory is short. Assumes nothing.
use Prim.Native.Nat.{◌-◌, ◌/◌}
use native.Mathlib.Omega.{arith}
use lib.ListN.{length}
use borrow.Author.Rules.{rules}
use Rattle.block_making.proofs.Making.{short}
use Rattle.block_making.proofs.Places.{unmarked}
use Rattle.block_making.proofs.deleting.delete_effect.Goals as goal

pub slice_bounds-gone-end : goal.slice_bounds-gone-end
slice_bounds-gone-end c = omega (arith, short c.args.m.now c.requires.0)

pub delete_with-requires : goal.delete_with-requires
delete_with-requires c =
    let l = short c.args.m.now c.requires.0 in
    (c.requires.0, c.requires.1, search rules, unmarked (length c.args.m.now / 32 - 0) 512)
