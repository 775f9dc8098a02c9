-- "When the kernel says no": the thirteen refusals and their numbers. Assumes nothing.
use Rattle.std.specs.Prelude.{ℕ}

pub data Refusal : Type 0 where
  DAMAGED CHILD BLOCK RIGHTS PIECE APART UNMERGED SLOT STRUCTURE ENABLED EMPTY ROOT LENGTH : Refusal

abbrev pub number : Refusal → ℕ
number DAMAGED = 1
number CHILD = 2
number BLOCK = 3
number RIGHTS = 4
number PIECE = 5
number APART = 6
number UNMERGED = 7
number SLOT = 8
number STRUCTURE = 9
number ENABLED = 10
number EMPTY = 11
number ROOT = 12
number LENGTH = 13
