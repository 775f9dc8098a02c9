-- `block_making::wiping::structures` meets its contract: as many places are filled as were passed. Assumes nothing.
use mathlib.Core.Path.{◌≡◌}
use lib.ListN.{replicate}
use Rattle.block_memory.specs.Partition
use Rattle.block_making.proofs.Turns.{filled}
use Rattle.block_making.proofs.wiping.structures.Given as goal

abbrev pub invariant-loop-i : goal.invariant-loop-i
invariant-loop-i l = l.at ≡ filled (Partition.structure l.m l.t) 1 (replicate 16 0) l.i
