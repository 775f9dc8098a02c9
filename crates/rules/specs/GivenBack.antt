-- Document 02, L8: what notify to a child saved, the child's resume of slot 2 gives back, if nobody wrote the slot page in between; on every sound memory.
-- Proved in proofs/state/GivenBack. Assumes nothing.
use Rattle.std.specs.Prelude.{◌≡◌, ◌≢◌, false, List, ◌∷◌, ℕ, ◌<◌}
use Rattle.memory.specs.Edition.{width}
use Rattle.memory.specs.Partition as P
use Rattle.memory.specs.Contexts.{slot_words, to_child_slot, no_slots, slot_word}
use Rattle.memory.specs.Sound.{Sound}
use Rattle.rules.specs.Row.{ok}
use Rattle.rules.specs.Call.{Call, Registers, register_words, notify, resume}
use Rattle.rules.specs.Conditions.{target}
use Rattle.rules.specs.Editions.{answer, context, after, run, NoFormat}

-- m is the memory before the notify
module _ (m : List ℕ) (t eip eflags : ℕ) (r : Registers) where
  abbrev pub caller : ℕ
  caller = P.current (width m) m

  abbrev pub callee : ℕ
  callee = target (width m) m t

  abbrev pub notified : List ℕ
  notified = after m (notify t eip eflags r)

  -- of a later memory: the child is current and still the caller's, and the caller's slot page is in its hand with read and write and has the words of
  -- slot 2 that notify left
  pub record Untouched (later : List ℕ) : Type 0 where
    pub current : P.current (width later) later ≡ callee
    pub parent : P.parent (width later) later callee ≡ caller
    pub in_hand : no_slots (width later) later caller ≡ false
    pub words : (k : ℕ) → k < slot_words
        → slot_word (width later) later caller to_child_slot k ≡ slot_word (width notified) notified caller to_child_slot k

  -- the parent's slot 2
  abbrev pub back : Call
  back = resume 0 to_child_slot

  pub record Restored (later : List ℕ) : Type 0 where
    pub answered : answer later back ≡ ok 0
    pub words : context later back ≡ eip ∷ P.flag (width m) m caller ∷ eflags ∷ register_words r
    pub flag : P.flag (width later) (after later back) caller ≡ P.flag (width m) m caller
    pub current : P.current (width later) (after later back) ≡ caller

  pub record GivenBack : Type 0 where
    -- at once, and after any calls but format that leave it so
    pub at_once : Untouched notified
    pub later : (cs : List Call) → NoFormat cs → Untouched (run notified cs) → Restored (run notified cs)

abbrev pub EveryGivenBack : Type 0
EveryGivenBack =
    (m : List ℕ) → Sound (width m) m → (t eip eflags : ℕ) (r : Registers) → t ≢ 0 → answer m (notify t eip eflags r) ≡ ok 0 → GivenBack m t eip eflags r
