-- The calls by their numbers: 0 is format, 1 to 12 are document 01's, and document 02's are beyond: 13 notify, 14 dispatch, 15 resume. Assumes nothing.
use Rattle.std.specs.Prelude.{cond, ℕ, leb, eqb}
use Rattle.rules.specs.Call.{Call, Registers, format_all, notify, dispatch, resume}
use Rattle.rules.specs.Replay.{call_of}

-- the registers of a notify, whose arguments are target, eip, eflags and these
abbrev pub registers_at : (ℕ → ℕ) → Registers
registers_at a = record { r0 = a 3; r1 = a 4; r2 = a 5; r3 = a 6; r4 = a 7; r5 = a 8; r6 = a 9; r7 = a 10 }

-- the call of number n (13 to 15) with argument j at a j
unfoldable pub context_call : ℕ → (ℕ → ℕ) → Call
context_call n a = cond (eqb n 13) (notify (a 0) (a 1) (a 2) (registers_at a)) (cond (eqb n 14) (dispatch (a 0)) (resume (a 0) (a 1)))

-- the call of number n (0 to 15) with argument j at a j
unfoldable pub numbered : ℕ → (ℕ → ℕ) → Call
numbered n a = cond (eqb n 0) (format_all (a 0)) (cond (leb n 12) (call_of n a) (context_call n a))
