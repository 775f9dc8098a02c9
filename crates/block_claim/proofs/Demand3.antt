-- Demand 3, from format and from any sound memory. Assumes nothing.
use mathlib.Core.Path.{◌≡◌, sym, ap, ap₂, subst}
use mathlib.Core.List.{List, [], ◌∷◌}
use mathlib.Core.Bool.{true, not}
use Prim.Native.Nat.{ℕ}
use lib.ListN.{length}
use Rattle.common.specs.Row.{Answer, ok, reply, pass}
use Rattle.common.proofs.Rows.{none, on, first-is}
use Rattle.block_memory.specs.Geometry.{permitted}
use Rattle.block_memory.specs.Format.{format}
use Rattle.block_memory.specs.Sound.{Sound}
use Rattle.block_soundness.proofs.Ranges.{permitted?}
use Rattle.block_rules.specs.Call.{Call, format_all}
use Rattle.block_rules.specs.Refusals.{refusals, refusal}
use Rattle.block_rules.specs.Effects.{effect}
use Rattle.block_rules.specs.Calls.{result, told, answer, after, run, answers, all_told}
use Rattle.block_rules.proofs.Formatted.{format-sound}
use Rattle.block_rules.proofs.Lengths.{length_run}
use Rattle.block_rules.proofs.Step.{run_sound}
use Rattle.block_claim.specs.Claim.{Claim, Demand3, FromSound}
use Rattle.block_claim.proofs.Kept.{kept_from}
use Rattle.block_claim.proofs.Barred.{barred}

pub from-sound : FromSound
from-sound m s cs = kept_from (run m cs) (run_sound cs m s) (length m) (length_run cs m)

module _ (m : List ℕ) (good : permitted (length m) ≡ true) where
  passes : refusal m format_all ≡ 0
  unfolding refusals
  passes = first-is (on (ap not good) none)

  formatted : after m format_all ≡ format (length m)
  unfolding after pass effect
  formatted = ap (λ (n : ℕ). pass n (format (length m)) m) passes

  said : answer m format_all ≡ ok 0
  unfolding answer reply result
  said = ap (λ (n : ℕ). reply n 0) passes

  claim : (cs : List Call) → Claim m cs
  unfolding run answers all_told told
  claim cs =
      let w : run m (format_all ∷ cs) ≡ run (format (length m)) cs = ap (λ (x : List ℕ). run x cs) formatted in
      let fresh : Sound (format (length m)) = format-sound (length m) ((permitted? (length m)).0 good) in
      let s : Sound (run m (format_all ∷ cs)) = subst Sound (sym w) (run_sound cs (format (length m)) fresh) in
      record {
        words = w;
        answered = ap₂ (λ (a : Answer) (x : List ℕ). a ∷ answers x cs) said formatted;
        told = ap (λ (x : List ℕ). [] ∷ all_told x cs) formatted;
        kept = kept_from (run m (format_all ∷ cs)) s (length m) (length_run (format_all ∷ cs) m);
      }

pub demand_3 : Demand3
demand_3 = record { permits = λ m cs good. claim m good cs; barred = λ m cs bad. barred m bad cs }
