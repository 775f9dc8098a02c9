-- "a definition gives this paper's number and values for each of the enum's cases" (document 01): what an answer of the code stands for. Assumes nothing.
use Rattle.std.specs.Prelude.{Result, ℕ, ⊤}
use Rattle.common.specs.Packed
use Rattle.common.specs.Row as Row
use Rattle.block_rules.specs.Refusal.{number, DAMAGED, CHILD, BLOCK, RIGHTS, PIECE, APART, UNMERGED, SLOT, STRUCTURE, ENABLED, EMPTY, ROOT, LENGTH}
use Rattle.block_answers.specs.declared.refusals.Refusal.{Refusal}
use Rattle.block_answers.specs.declared.refusals.Refusal.TheVariants.{Damaged, Child, Block, Rights, Piece, Apart, Unmerged, Slot, Structure, Enabled}
use Rattle.block_answers.specs.declared.refusals.Refusal.TheVariants.{Empty, Root, Length}

abbrev pub number_of : Refusal → ℕ
number_of Damaged = number DAMAGED
number_of Child = number CHILD
number_of Block = number BLOCK
number_of Rights = number RIGHTS
number_of Piece = number PIECE
number_of Apart = number APART
number_of Unmerged = number UNMERGED
number_of Slot = number SLOT
number_of Structure = number STRUCTURE
number_of Enabled = number ENABLED
number_of Empty = number EMPTY
number_of Root = number ROOT
number_of Length = number LENGTH

-- "ok" with a word, or "no" with the refusal's number
abbrev pub said : Result ℕ Refusal → Row.Answer
said a = Packed.said number_of a

-- the number of the refusal that a test of a call gave, or 0 where it passed
abbrev pub refusal_in : Result ⊤ Refusal → ℕ
refusal_in r = Packed.refusal_in number_of r
