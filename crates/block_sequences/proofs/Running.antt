-- What a run of a sequence owes, by the crate common's run of any kernel's calls. Assumes nothing.
use mathlib.Core.Path.{◌≡◌, refl, ap, ◌∙◌}
use mathlib.Core.List.{List, [], ◌∷◌}
use Prim.Native.Nat.{ℕ}
use lib.ListN.{length}
use Rattle.std.specs.List.{fold}
use Rattle.common.specs.Words.{overwrite}
use Rattle.block_memory.specs.Geometry.{permitted}
use Rattle.block_rules.specs.Call.{Call}
use Rattle.block_rules.specs.Calls.{after, run}
use Rattle.block_rules.proofs.Lengths.{length_run}
use Rattle.block_claim.proofs.Demand3.{demand_3, from-sound}
use Rattle.block_sequences.specs.Replies.{replies, executed}
use Rattle.block_sequences.specs.Ran.{Ran}

run-fold : (m : List ℕ) (cs : List Call) → fold after m cs ≡ run m cs
unfolding run
run-fold m [] = refl
run-fold m (c ∷ cs) = run-fold (after m c) cs

module _ (ws m₀ out₀ : List ℕ) {m out : List ℕ} {n : ℕ} where
  -- the length alone tells whether a format passes
  pub ran : n ≡ length (executed ws out₀) → m ≡ fold after m₀ (executed ws out₀) → out ≡ overwrite out₀ 0 (replies m₀ (executed ws out₀))
      → Ran ws m₀ m out₀ out n
  ran k l o = record {
    count = k;
    memory = l ∙ run-fold m₀ (executed ws out₀);
    answered = o;
    claim = λ fs cs ds q g. demand_3.permits (run m₀ fs) cs (ap permitted (length_run fs m₀) ∙ g);
    kept = λ cs ds q s. from-sound m₀ s cs;
    barred = demand_3.barred m₀ (executed ws out₀);
  }
