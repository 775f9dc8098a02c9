-- What a run of a sequence owes, by the crate common's run of any kernel's calls. Assumes nothing.
use mathlib.Core.Path.{◌≡◌, refl, ◌∙◌}
use mathlib.Core.List.{List, [], ◌∷◌}
use Prim.Native.Nat.{ℕ}
use lib.ListN.{length}
use Rattle.std.specs.List.{fold}
use Rattle.memory.specs.Words.{overwrite}
use Rattle.rules.specs.Call.{Call}
use Rattle.rules.specs.Editions.{after, run}
use Rattle.rules.specs.Permitted.{Fits}
use Rattle.rules.proofs.Lengths.{length_run}
use Rattle.claim.proofs.Demand3.{demand_3}
use Rattle.kernel.specs.Room.{replies}
use Rattle.kernel.specs.Ran.{Ran, executed}

-- ---- the length alone tells whether a format passes

fits-same : (e : ℕ) (m m' : List ℕ) → length m' ≡ length m → Fits e m → Fits e m'
fits-same e m m' l f = record {
  known = f.known;
  size = record { whole = rw l f.size.whole; least = rw l f.size.least; most = rw l f.size.most };
}

-- ---- a run, call after call, owes what document 01 demands

run-fold : (m : List ℕ) (cs : List Call) → fold after m cs ≡ run m cs
unfolding run
run-fold m [] = refl
run-fold m (c ∷ cs) = run-fold (after m c) cs

module _ (ws m₀ out₀ : List ℕ) {m out : List ℕ} {n : ℕ} where
  pub ran : n ≡ length (executed ws out₀) → m ≡ fold after m₀ (executed ws out₀) → out ≡ overwrite out₀ 0 (replies m₀ (executed ws out₀))
      → Ran ws m₀ m out₀ out n
  ran k l o = record {
    count = k;
    memory = l ∙ run-fold m₀ (executed ws out₀);
    answered = o;
    claim = λ e fs cs ds q f. demand_3.permitted e (run m₀ fs) cs (fits-same e m₀ (run m₀ fs) (length_run m₀ fs) f);
    barred = demand_3.barred m₀ (executed ws out₀);
  }
