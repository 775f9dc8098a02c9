-- "a definition gives this paper's number and values for each of the enum's cases": what an answer of the code stands for. Assumes nothing.
use Rattle.std.specs.Prelude.{Result, ℕ, ⊤}
use Rattle.common.specs.Packed
use Rattle.rules.specs.Refusal.{number, DAMAGED, SIZE, ADDRESS, TWICE, CHILD, RIGHTS, HAND, TABLE, TAKEN, LIST}
use Rattle.rules.specs.Refusal.{CHAIN, FULL-TABLE, DEPTH, ROOT, UNMAPPED, KERNEL, SHORT, MAGIC, SLOT-PAGE, SLOT, EMPTY-SLOT, EDITION}
use Rattle.rules.specs.Row as Row
use Rattle.answers.specs.declared.refusals.Refusal.{Refusal}
use Rattle.answers.specs.declared.refusals.Refusal.TheVariants.{Damaged, Size, Address, Twice, Child, Rights, Hand, Table, Taken, List}
use Rattle.answers.specs.declared.refusals.Refusal.TheVariants.{Chain, FullTable, Depth, Root, Unmapped, Kernel, Short, Magic, SlotPage, Slot, EmptySlot}
use Rattle.answers.specs.declared.refusals.Refusal.TheVariants.{Edition}

abbrev pub number_of : Refusal → ℕ
number_of Damaged = number DAMAGED
number_of Size = number SIZE
number_of Address = number ADDRESS
number_of Twice = number TWICE
number_of Child = number CHILD
number_of Rights = number RIGHTS
number_of Hand = number HAND
number_of Table = number TABLE
number_of Taken = number TAKEN
number_of List = number LIST
number_of Chain = number CHAIN
number_of FullTable = number FULL-TABLE
number_of Depth = number DEPTH
number_of Root = number ROOT
number_of Unmapped = number UNMAPPED
number_of Kernel = number KERNEL
number_of Short = number SHORT
number_of Magic = number MAGIC
number_of SlotPage = number SLOT-PAGE
number_of Slot = number SLOT
number_of EmptySlot = number EMPTY-SLOT
number_of Edition = number EDITION

-- "ok" with a word, or "no" with the refusal's number
abbrev pub said : Result ℕ Refusal → Row.Answer
said a = Packed.said number_of a

-- the number of the refusal that a test of a call gave, or 0 where it passed
abbrev pub refusal_in : Result ⊤ Refusal → ℕ
refusal_in r = Packed.refusal_in number_of r
