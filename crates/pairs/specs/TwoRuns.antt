-- "A neighbour's patient" (document 02, L11) of the code that runs: two runs of the same calls. Assumes nothing.
use Rattle.std.specs.Prelude.{◌≡◌, List, ℕ, ◌<◌, length, get_or}
use Rattle.memory.specs.Edition.{width}
use Rattle.rules.specs.Call.{Call}
use Rattle.neighbours.specs.Neighbours.{Shown, EqualOn, Alike, Stays}
use Rattle.kernel.specs.Room.{places_all}
use Rattle.kernel.specs.Ran.{Ran, executed}

-- what B is shown of two runs of calls cs: one takes memory m to m', leaves the answers out and says k; the other takes n to n', leaves out₂ and says k₂
pub record SameSeen (B : ℕ) (cs : List Call) (m m' out : List ℕ) (k : ℕ) (n n' out₂ : List ℕ) (k₂ : ℕ) : Type 0 where
  pub count : k ≡ k₂
  -- every number of their answers, the words that a resume answers among them
  pub answered : (j : ℕ) → j < places_all cs → get_or out j 0 ≡ get_or out₂ j 0
  pub words : EqualOn (width m) (Shown (width m) m B) m' n'

-- by the contract of `run` (Ran), of calls ws on memories m and n that are alike to B, with as much room for answers. With less room fewer of the calls
-- are run, so this holds after each call.
abbrev pub TwoRuns : Type 0
TwoRuns =
    (ws : List ℕ) (m m' out out' : List ℕ) (k : ℕ) → Ran ws m m' out out' k →
    (n n' out₂ out₂' : List ℕ) (k₂ : ℕ) → Ran ws n n' out₂ out₂' k₂ → length out ≡ length out₂ →
    (B : ℕ) → Alike B m n → Stays B m (executed ws out) → Stays B n (executed ws out) → SameSeen B (executed ws out) m m' out' k n n' out₂' k₂
