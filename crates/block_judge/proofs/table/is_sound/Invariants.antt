-- `block_judge::table::is_sound` meets its contract: the table words that are left pass where all do; the length is at most 16384, since the header passed.
-- Assumes nothing.
use mathlib.Core.Path.{◌≡◌}
use Prim.Native.Nat.{◌/◌}
use lib.ListN.{length}
use Rattle.walk.specs.Finite.{all}
use Rattle.block_memory.proofs.Loops.{left}
use Rattle.block_soundness.specs.Test.{sound_test}
use Rattle.block_judge.proofs.Sentences.{good_word}
use Rattle.block_judge.proofs.table.is_sound.Given as goal

abbrev pub invariant-loop-j : goal.invariant-loop-j
invariant-loop-j l = all (good_word l.m) (left (length l.m / 32) l.j) ≡ sound_test l.m
