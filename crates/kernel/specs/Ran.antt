-- What a run of a sequence owes: demands 1 to 3 of the code that runs. Assumes nothing.
use Rattle.std.specs.Prelude.{◌≡◌, List, ◌∷◌, ◌++◌, ℕ, length}
use Rattle.memory.specs.Words.{overwrite}
use Rattle.rules.specs.Call.{Call, format_all}
use Rattle.rules.specs.Editions.{run}
use Rattle.rules.specs.Permitted.{Fits}
use Rattle.claim.specs.Claim.{Claim, Barred}
use Rattle.kernel.specs.Sequence.{calls_of}
use Rattle.kernel.specs.Room.{fitting, replies}

-- the calls that words ws stand for, as many as out has room for answers
abbrev pub executed : List ℕ → List ℕ → List Call
executed ws out = fitting (length out) (calls_of ws)

-- memory m and answers out become m' and out', and the run says n
pub record Ran (ws m m' out out' : List ℕ) (n : ℕ) : Type 0 where
  pub count : n ≡ length (executed ws out)
  pub memory : m' ≡ run m (executed ws out)
  -- the rest of the answers stays
  pub answered : out' ≡ overwrite out 0 (replies m (executed ws out))
  -- a format that passes, behind any calls fs, and then any number of the calls behind it: demand 3 holds after format and after each of them
  pub claim : (e : ℕ) (fs cs ds : List Call) → executed ws out ≡ fs ++ (format_all e ∷ (cs ++ ds)) → Fits e m → Claim e (run m fs) cs
  -- on memory whose length is none of any edition every call is refused and no word changes
  pub barred : ((e : ℕ) → ¬ Fits e m) → Barred m (executed ws out)
