-- What the answer stands for. Assumes nothing.
use Rattle.std.specs.Prelude as Prelude
use Rattle.std.specs.Prelude.{Ok, Err, List, [], ℕ, take}
use Rattle.assembly.specs.Assembled.{Result, written, unread, too_long}
use Rattle.assembly.specs.declared.Reason.{Reason}
use Rattle.assembly.specs.declared.Reason.TheVariants.{NoPages, UnknownCall, TooFew, TooMany, NoNumber, LongScript, NoLine}
use Rattle.assembly.specs.declared.Unassembled.{Unassembled}
use Rattle.assembly.specs.declared.Unassembled.TheVariants.{Unread, TooLong}

-- the reasons by their numbers
abbrev pub number_of : Reason → ℕ
number_of NoPages = 1
number_of UnknownCall = 2
number_of TooFew = 3
number_of TooMany = 4
number_of NoNumber = 5
number_of LongScript = 6
number_of NoLine = 7

-- the answer, with the bytes that were handed back
abbrev pub told : Prelude.Result ℕ Unassembled → List ℕ → Result
told (Ok n) out = written (take n out)
told (Err (Unread k why)) out = unread k why
told (Err TooLong) out = too_long

-- how many bytes the answer says there are
abbrev pub size : Prelude.Result ℕ Unassembled → ℕ
size (Ok n) = n
size (Err e) = 0

-- the script, or no byte where there is none
abbrev pub script_of : Result → List ℕ
script_of (written bytes) = bytes
script_of (unread k why) = []
script_of too_long = []
