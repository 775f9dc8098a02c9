-- Demand 3, a single claim about every sequence of calls, of every edition. Assumes nothing.
use Rattle.std.specs.Prelude.{◌≡◌, List, [], ◌∷◌, ℕ}
use Rattle.std.proofs.Math.Option.{Option, none, some}
use Rattle.memory.specs.Edition
use Rattle.memory.specs.Geometry.{width_of}
use Rattle.memory.specs.Format.{format}
use Rattle.rules.specs.Refusal.{number, DAMAGED, SIZE}
use Rattle.rules.specs.Row.{Answer, ok, no}
use Rattle.rules.specs.Call.{Call, format_all, choice, resumption}
use Rattle.rules.specs.Conditions.{pages_in}
use Rattle.rules.specs.Calls.{no_context}
use Rattle.rules.specs.Editions.{answer, after, run, answers, contexts, last_edition}
use Rattle.rules.specs.Permitted.{Fits}
use Rattle.claim.specs.Kept.{Kept}

-- what a call answers on memory whose length is none of any edition: format is refused for the size, every other call finds no sound tree
abbrev pub refused_by : Option ℕ → ℕ
refused_by none = number DAMAGED
refused_by (some e) = number SIZE

unfoldable pub all_refused : List Call → List Answer
all_refused [] = []
all_refused (c ∷ cs) = no (refused_by (choice c)) ∷ all_refused cs

-- and beside (document 02, L8): a resume eleven zeros
abbrev pub refused_beside : Option (ℕ × ℕ) → List ℕ
refused_beside none = []
refused_beside (some x) = no_context

unfoldable pub none_resumed : List Call → List (List ℕ)
none_resumed [] = []
none_resumed (c ∷ cs) = refused_beside (resumption c) ∷ none_resumed cs

-- format for edition e and then the calls cs, on memory of a permitted length whatever it held: answers and words are "worked out from the memory's
-- length and the calls' arguments alone", and what demand 3 asks holds afterwards
module _ (e : ℕ) (m : List ℕ) (cs : List Call) where
  pub record Claim : Type 0 where
    pub words : run m (format_all e ∷ cs) ≡ run (format (width_of e) (pages_in (width_of e) m)) cs
    pub answered : answers m (format_all e ∷ cs) ≡ ok 0 ∷ answers (format (width_of e) (pages_in (width_of e) m)) cs
    -- the words that a resume answers
    pub resumed : contexts m (format_all e ∷ cs) ≡ [] ∷ contexts (format (width_of e) (pages_in (width_of e) m)) cs
    -- the next call reads the memory as of the edition of the last format that passed
    pub edition : Edition.edition (run m (format_all e ∷ cs)) ≡ last_edition m e cs
    pub kept : Kept (width_of (last_edition m e cs)) (run m (format_all e ∷ cs)) (pages_in (width_of (last_edition m e cs)) m)

-- a format that is refused changes no word
pub record Refused (e : ℕ) (m : List ℕ) : Type 0 where
  pub words : after m (format_all e) ≡ m
  pub answered : answer m (format_all e) ≡ no (number SIZE)

-- on memory whose length is none of any edition no call passes and no word changes
pub record Barred (m : List ℕ) (cs : List Call) : Type 0 where
  pub words : run m cs ≡ m
  pub answered : answers m cs ≡ all_refused cs
  pub resumed : contexts m cs ≡ none_resumed cs

-- of every memory and every list of calls, format among them: the part before any call of a list is a list itself, so this holds at the start and
-- after each call
pub record Demand3 : Type 0 where
  pub permitted : (e : ℕ) (m : List ℕ) (cs : List Call) → Fits e m → Claim e m cs
  pub refused : (e : ℕ) (m : List ℕ) → ¬ Fits e m → Refused e m
  pub barred : (m : List ℕ) (cs : List Call) → ((e : ℕ) → ¬ Fits e m) → Barred m cs
