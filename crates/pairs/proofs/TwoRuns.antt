-- Two runs of the same calls on memories that are alike to B. Assumes nothing.
use mathlib.Core.Path.{◌≡◌, refl, sym, ap, ap₂, ◌∙◌}
use mathlib.Core.List.{List, [], ◌∷◌, ◌++◌}
use Prim.Native.Nat.{ℕ, zero, suc, ◌<◌}
use native.Mathlib.Omega.{arith}
use lib.ListN.{length, get_or}
use Rattle.common.specs.Room
use Rattle.memory.specs.Edition.{width}
use Rattle.memory.specs.Words.{overwrite}
use Rattle.rules.specs.Row.{Answer}
use Rattle.rules.specs.Call.{Call}
use Rattle.rules.specs.Editions.{after}
use Rattle.answers.specs.Packed.{packed}
use Rattle.neighbours.specs.Neighbours.{Shown, Equal}
use Rattle.neighbours.proofs.Whole.{neighbours}
use Rattle.neighbours.proofs.Runs.{equal_words}
use Rattle.kernel.specs.Sequence.{calls_of}
use Rattle.kernel.specs.Room.{replies, fitting}
use Rattle.kernel.specs.Ran.{executed}
use Rattle.kernel.proofs.Places.{replies-places}
use Rattle.pairs.specs.TwoRuns.{TwoRuns}

-- equal answers, and equal words beside them, are equal numbers
equal-replies : (b : ℕ) (S : ℕ → Type 0) (m n : List ℕ) (cs : List Call) → Equal b S m n cs → replies m cs ≡ replies n cs
unfolding Room.replies
equal-replies b S m n [] q = refl
equal-replies b S m n (c ∷ cs) q =
    ap₂ (λ (xs ys : List ℕ). xs ++ ys) (ap₂ (λ (a : Answer) (xs : List ℕ). packed a ∷ xs) q.0 q.1) (equal-replies b S (after m c) (after n c) cs q.3)

-- what is written over two lists of one length is the same in both
over-same : (xs ys ws : List ℕ) → length xs ≡ length ys → (j : ℕ) → j < length ws → get_or (overwrite xs 0 ws) j 0 ≡ get_or (overwrite ys 0 ws) j 0
over-same [] [] ws l j h = refl
over-same [] (y ∷ ys) ws l j h = absurd (omega (arith, l))
over-same (x ∷ xs) [] ws l j h = absurd (omega (arith, l))
over-same (x ∷ xs) (y ∷ ys) [] l j h = absurd (omega arith)
over-same (x ∷ xs) (y ∷ ys) (w ∷ ws) l zero h = refl
over-same (x ∷ xs) (y ∷ ys) (w ∷ ws) l (suc j) h = over-same xs ys ws (omega (arith, l)) j (omega arith)

pub two_runs : TwoRuns
two_runs ws m m' out out' k r n n' out₂ out₂' k₂ r₂ l B a s s₂ =
    let cs : List Call = executed ws out in
    let e : cs ≡ executed ws out₂ = ap (λ (i : ℕ). fitting i (calls_of ws)) l in
    let q = neighbours.equal B m n a cs s s₂ in
    let S = Shown (width m) m B in
    let p : replies m cs ≡ replies n cs = equal-replies (width m) S m n cs q in
    record {
      count = r.count ∙ ap length e ∙ sym r₂.count;
      answered = λ j h.
          let g : j < length (replies m cs) = omega (arith, replies-places m cs) in
          rw (r.answered, r₂.answered, sym e, sym p) (over-same out out₂ (replies m cs) l j g);
      words = rw (r.memory, r₂.memory, sym e) (equal_words (width m) S m n a.words cs q);
    }
