-- A run, call after call: what is left of it gives what is left of the memory's changes and of the answers. Assumes nothing.
use mathlib.Core.Path.{◌≡◌, refl, sym, ap, ◌∙◌}
use mathlib.Core.Logic.{◌≢◌}
use mathlib.Core.List.{List, [], ◌∷◌, ◌++◌}
use Prim.Native.Nat.{ℕ, zero, suc, ◌+◌, ◌-◌, ◌≤◌, ◌<◌}
use native.Mathlib.Nat.{sub-zero}
use native.Mathlib.Omega.{arith}
use lib.ListN.{length}
use Rattle.std.specs.List.{fold}
use Rattle.common.specs.Words.{overwrite}
use Rattle.common.specs.Sequence.{call_at, calls_from}
use Rattle.common.specs.Room.{replies, fitting, next_at, executed}
use Rattle.common.proofs.Writing.{overwrite-none, overwrite-both}
use Rattle.common.proofs.Fitting.{no_more, end-above, end-within, one_more}

module _ {C : Type 0} (counts : List ℕ) (most : ℕ) (numbered : ℕ → (ℕ → ℕ) → C) (places : C → ℕ) where
  module _ (after : List ℕ → C → List ℕ) (reply_of : List ℕ → C → List ℕ) (ws m₀ out₀ : List ℕ) where
    -- the calls from word i on, at most k, whose answers fit from place p on
    abbrev left : ℕ → ℕ → ℕ → List C
    left k p i = fitting places (length out₀ - p) (calls_from counts most numbered k ws i)

    -- all that are run
    abbrev all : List C
    all = executed counts most numbered places ws out₀

    -- n calls were run, their answers stand before place p, and the next call's words begin at word i; no more calls are left than turns
    pub record Rest (m out : List ℕ) (n i p : ℕ) : Type 0 where
      pub turns : ℕ
      pub enough : length ws ≤ i + turns
      pub count : n + length (left turns p i) ≡ length all
      pub memory : fold after m (left turns p i) ≡ fold after m₀ all
      pub answered : overwrite out p (replies after reply_of m (left turns p i)) ≡ overwrite out₀ 0 (replies after reply_of m₀ all)

    pub rest-start : Rest m₀ out₀ 0 0 0
    rest-start =
        let z : left (length ws) 0 0 ≡ all = ap (λ k. fitting places k (calls_from counts most numbered (length ws) ws 0)) (sub-zero (length out₀)) in
        record {
          turns = length ws;
          enough = omega arith;
          count = omega (arith, ap length z);
          memory = ap (λ cs. fold after m₀ cs) z;
          answered = ap (λ cs. overwrite out₀ 0 (replies after reply_of m₀ cs)) z;
        }

    -- the end of the next call was looked for
    module _ {m out : List ℕ} {n i p : ℕ} (r : Rest m out n i p) {e : ℕ} (f : e ≡ next_at counts most numbered places ws i (length out₀ - p)) where
      abbrev here : C
      here = call_at numbered ws i

      -- one more call
      pub rest-next : length (reply_of m here) ≡ places here → {q : ℕ} {m' out' : List ℕ} → e ≢ 0 → q ≡ p + places here → out' ≡ overwrite out p (reply_of m here) → m' ≡ after m here → Rest m' out' (n + 1) e q
      unfolding replies
      rest-next reply-places {q} {m'} {out'} h a b d = step r.turns refl
        where
          above : i < e
          above = end-above counts most numbered places ws i (length out₀ - p) f h

          step : (k : ℕ) → r.turns ≡ k → Rest m' out' (n + 1) e q
          step zero z = absurd (omega (arith, z, r.enough, above, end-within counts most numbered places ws i (length out₀ - p) f h))
          step (suc k) z =
              let s : length out₀ - p - places here ≡ length out₀ - q = omega arith in
              let l : left r.turns p i ≡ here ∷ left k q e =
              ap (λ (x : ℕ). left x p i) z ∙ one_more counts most numbered places ws i (length out₀ - p) f h k
              ∙ ap (λ (x : ℕ). here ∷ fitting places x (calls_from counts most numbered k ws e)) s in
              record {
                turns = k;
                enough = omega (arith, z, r.enough, above);
                count = omega (arith, ap length l, r.count);
                memory =
                    ap (λ (v : List ℕ). fold after v (left k q e)) d ∙ sym (ap (λ (cs : List C). fold after m cs) l) ∙ r.memory;
                answered =
                    overwrite-both out p (reply_of m here) (replies after reply_of m' (left k q e)) (a ∙ ap (λ (x : ℕ). p + x) (sym reply-places)) b
                    ∙ ap (λ (v : List ℕ). overwrite out p (reply_of m here ++ replies after reply_of v (left k q e))) d ∙ rw l at r.answered;
              }

      -- no more: so many calls were run, and memory and answers are theirs
      pub rest-none : e ≡ 0 → (n ≡ length all) × (m ≡ fold after m₀ all) × (out ≡ overwrite out₀ 0 (replies after reply_of m₀ all))
      unfolding replies
      rest-none h =
          let l : left r.turns p i ≡ [] = no_more counts most numbered places ws i (length out₀ - p) f h r.turns in (
            omega (arith, ap length l, r.count),
            sym (ap (λ (cs : List C). fold after m cs) l) ∙ r.memory,
            sym (overwrite-none out p) ∙ rw l at r.answered,
          )
