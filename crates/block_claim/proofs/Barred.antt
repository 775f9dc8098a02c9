-- On a length that isn't permitted no call passes and no word changes. Assumes nothing.
use mathlib.Core.Path.{◌≡◌, refl, sym, ap, ap₂, ◌∙◌}
use mathlib.Core.List.{List, [], ◌∷◌}
use mathlib.Core.Bool.{Bool, true, false, not, false≢true}
use mathlib.Core.Option.{Option, none, some}
use Prim.Native.Nat.{ℕ, suc}
use lib.ListN.{length}
use Rattle.common.specs.Row.{Answer, no, reply, pass}
use Rattle.common.proofs.Rows.{at, first-is}
use Rattle.block_memory.specs.Geometry.{permitted}
use Rattle.block_memory.specs.Partition.{current}
use Rattle.block_soundness.specs.Test.{sound_test}
use Rattle.block_soundness.proofs.Whole.{sound?}
use Rattle.block_rules.specs.Call.{Call, format_all, serve}
use Rattle.block_rules.specs.Refusals.{refusals, refusal}
use Rattle.block_rules.specs.Effects.{effect}
use Rattle.block_rules.specs.Calls.{tells, result, told_of, told, answer, after, run, answers, all_told}
use Rattle.block_claim.specs.Claim.{refused_by, all_refused, refused_beside, none_told, Barred}

module _ (m : List ℕ) (bad : permitted (length m) ≡ false) where
  damaged : not (sound_test m) ≡ true
  damaged = go (sound_test m) refl
    where
      go : (t : Bool) → sound_test m ≡ t → not t ≡ true
      go true e = absurd (false≢true (sym bad ∙ ((sound? m).0 e).header.permits))
      go false e = refl

  refused : (c : Call) → refusal m c ≡ refused_by c
  unfolding refusals
  refused format_all = first-is (at (ap not bad))
  refused (serve s) = first-is (at damaged)

  some_number : (c : Call) → (n : ℕ) × (refused_by c ≡ suc n)
  some_number format_all = (12, refl)
  some_number (serve s) = (0, refl)

  same : (c : Call) → after m c ≡ m
  unfolding after pass
  same c = let (n, e) = some_number c in ap (λ (k : ℕ). pass k (effect m c) m) (refused c ∙ e)

  said : (c : Call) → answer m c ≡ no (refused_by c)
  unfolding answer reply
  said c = let (n, e) = some_number c in ap (λ (k : ℕ). reply k (result m c)) (refused c ∙ e) ∙ ap no (sym e)

  beside : (o : Option (ℕ × ℕ)) → told_of m 1 o ≡ refused_beside o
  unfolding told_of pass
  beside none = refl
  beside (some x) = refl

  none_told_lem : (cs : List Call) → all_told m cs ≡ none_told m cs
  unfolding all_told none_told told
  none_told_lem [] = refl
  none_told_lem (format_all ∷ cs) = ap (λ (x : List ℕ). [] ∷ all_told x cs) (same format_all) ∙ ap (λ (rest : List (List ℕ)). [] ∷ rest) (none_told_lem cs)
  none_told_lem (serve s ∷ cs) =
      ap₂ (λ (n : ℕ) (x : List ℕ). told_of m n (tells m (current m) s) ∷ all_told x cs) (refused (serve s)) (same (serve s))
      ∙ ap₂ (λ (a : List ℕ) (rest : List (List ℕ)). a ∷ rest) (beside (tells m (current m) s)) (none_told_lem cs)

  pub barred : (cs : List Call) → Barred m cs
  unfolding run answers all_refused
  barred [] = record { words = refl; answered = refl; told = none_told_lem [] }
  barred (c ∷ cs) = let b = barred cs in record {
    words = ap (λ (x : List ℕ). run x cs) (same c) ∙ b.words;
    answered = ap₂ (λ (a : Answer) (x : List ℕ). a ∷ answers x cs) (said c) (same c) ∙ ap (λ (rest : List Answer). no (refused_by c) ∷ rest) b.answered;
    told = none_told_lem (c ∷ cs);
  }
