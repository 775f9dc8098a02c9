-- What a run of a sequence owes: demands 1 to 3 over bytes, of the code that runs. Assumes nothing.
use Rattle.std.specs.Prelude.{◌≡◌, List, ◌∷◌, ◌++◌, true, false, ℕ, length}
use Rattle.common.specs.Words.{overwrite}
use Rattle.block_memory.specs.Geometry.{permitted}
use Rattle.block_memory.specs.Sound.{Sound}
use Rattle.block_rules.specs.Call.{Call, format_all}
use Rattle.block_rules.specs.Calls.{run}
use Rattle.block_claim.specs.Kept.{Kept}
use Rattle.block_claim.specs.Claim.{Claim, Barred}
use Rattle.block_sequences.specs.Replies.{replies, executed}

-- memory m and answers out become m' and out', and the run says n
pub record Ran (ws m m' out out' : List ℕ) (n : ℕ) : Type 0 where
  pub count : n ≡ length (executed ws out)
  pub memory : m' ≡ run m (executed ws out)
  -- the rest of the answers stays
  pub answered : out' ≡ overwrite out 0 (replies m (executed ws out))
  -- a format behind any calls fs, and then any number of the calls behind it: demand 3 holds after format and after each of them
  pub claim : (fs cs ds : List Call) → executed ws out ≡ fs ++ (format_all ∷ (cs ++ ds)) → permitted (length m) ≡ true → Claim (run m fs) cs
  -- from sound memory on the same facts hold after each call
  pub kept : (cs ds : List Call) → executed ws out ≡ cs ++ ds → Sound m → Kept (run m cs) (length m)
  -- on a length that isn't permitted every call is refused and no word changes
  pub barred : permitted (length m) ≡ false → Barred m (executed ws out)
