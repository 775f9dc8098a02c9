-- The eight registers as an array. Assumes nothing.
use Rattle.std.specs.Prelude.{List, ℕ, get_or}
use Rattle.rules.specs.Call.{Call, Registers, notify}

abbrev pub registers_of : List ℕ → Registers
registers_of rs = record {
  r0 = get_or rs 0 0;
  r1 = get_or rs 1 0;
  r2 = get_or rs 2 0;
  r3 = get_or rs 3 0;
  r4 = get_or rs 4 0;
  r5 = get_or rs 5 0;
  r6 = get_or rs 6 0;
  r7 = get_or rs 7 0;
}

-- the call with these registers
abbrev pub notifying : ℕ → ℕ → ℕ → List ℕ → Call
notifying t eip eflags rs = notify t eip eflags (registers_of rs)
