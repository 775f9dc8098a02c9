-- "When the kernel says no": the eighteen refusals and their numbers, and those of document 02. Assumes nothing.
use Rattle.std.specs.Prelude.{ℕ}

pub data Refusal : Type 0 where
  DAMAGED SIZE ADDRESS TWICE CHILD RIGHTS HAND TABLE TAKEN LIST CHAIN FULL-TABLE DEPTH ROOT UNMAPPED KERNEL SHORT MAGIC : Refusal
  -- document 02, L8
  SLOT-PAGE SLOT EMPTY-SLOT EDITION : Refusal

abbrev pub number : Refusal → ℕ
number DAMAGED = 1
number SIZE = 2
number ADDRESS = 3
number TWICE = 4
number CHILD = 5
number RIGHTS = 6
number HAND = 7
number TABLE = 8
number TAKEN = 9
number LIST = 10
number CHAIN = 11
number FULL-TABLE = 12
number DEPTH = 13
number ROOT = 14
number UNMAPPED = 15
number KERNEL = 16
number SHORT = 17
number MAGIC = 18
number SLOT-PAGE = 20
number SLOT = 21
number EMPTY-SLOT = 22
number EDITION = 24
