-- Memory that services reach from format is sound, so that none of them is refused with 1: what they leave and answer comes from their rows behind the first
-- test. So computed statements need not compute the test of soundness, which takes longer than all the rest. Assumes nothing.
use mathlib.Core.Path.{◌≡◌, refl, ap, ap₂, ◌∙◌}
use mathlib.Core.List.{List, [], ◌∷◌}
use Prim.Native.Nat.{ℕ}
use Rattle.common.specs.Row.{Answer, reply, pass}
use Rattle.block_memory.specs.Geometry.{permitted}
use Rattle.block_memory.specs.Partition.{current}
use Rattle.block_memory.specs.Format.{format}
use Rattle.block_memory.specs.Sound.{Sound}
use Rattle.block_soundness.proofs.Ranges.{permitted?}
use Rattle.block_rules.specs.Row.{first}
use Rattle.block_rules.specs.Call.{Service, serve}
use Rattle.block_rules.specs.Refusals.{refusals_of}
use Rattle.block_rules.specs.Effects.{effect_of, effect}
use Rattle.block_rules.specs.Calls.{tells, result_of, result, told_of, told, answer, after, run, answers, all_told}
use Rattle.block_rules.proofs.Formatted.{format-sound}
use Rattle.block_rules.proofs.Step.{after-sound, run_sound, refusal-sound}
use Rattle.block_cases.specs.Reached as Reached
use Rattle.block_cases.specs.Reached.{served}

-- the number of the first refusal behind refusal 1, or 0; and what comes of it
unfoldable pub later : List ℕ → Service → ℕ
later m s = first (refusals_of m (current m) s)

unfoldable pub after_later : List ℕ → Service → List ℕ
after_later m s = pass (later m s) (effect_of m (current m) s) m

unfoldable pub run_later : List ℕ → List Service → List ℕ
run_later m [] = m
run_later m (s ∷ ss) = run_later (after_later m s) ss

unfoldable pub answers_later : List ℕ → List Service → List Answer
answers_later m [] = []
answers_later m (s ∷ ss) = reply (later m s) (result_of m (current m) s) ∷ answers_later (after_later m s) ss

unfoldable pub told_later : List ℕ → List Service → List (List ℕ)
told_later m [] = []
told_later m (s ∷ ss) = told_of m (later m s) (tells m (current m) s) ∷ told_later (after_later m s) ss

module _ (m : List ℕ) (sound : Sound m) (s : Service) where
  after_is : after m (serve s) ≡ after_later m s
  unfolding after after_later later effect
  after_is = ap (λ (n : ℕ). pass n (effect_of m (current m) s) m) (refusal-sound m sound s)

  answer-is : answer m (serve s) ≡ reply (later m s) (result_of m (current m) s)
  unfolding answer later result
  answer-is = ap (λ (n : ℕ). reply n (result_of m (current m) s)) (refusal-sound m sound s)

  told_is : told m (serve s) ≡ told_of m (later m s) (tells m (current m) s)
  unfolding told later
  told_is = ap (λ (n : ℕ). told_of m n (tells m (current m) s)) (refusal-sound m sound s)

run_is : (ss : List Service) (m : List ℕ) → Sound m → run m (served ss) ≡ run_later m ss
unfolding run run_later served
run_is [] m h = refl
run_is (s ∷ ss) m h = run_is ss (after m (serve s)) (after-sound m h (serve s)) ∙ ap (λ (x : List ℕ). run_later x ss) (after_is m h s)

answers-are : (ss : List Service) (m : List ℕ) → Sound m → answers m (served ss) ≡ answers_later m ss
unfolding answers answers_later served
answers-are [] m h = refl
answers-are (s ∷ ss) m h =
    ap₂ (λ (a : Answer) (rest : List Answer). a ∷ rest) (answer-is m h s) (answers-are ss (after m (serve s)) (after-sound m h (serve s)))
    ∙ ap (λ (x : List ℕ). reply (later m s) (result_of m (current m) s) ∷ answers_later x ss) (after_is m h s)

told-are : (ss : List Service) (m : List ℕ) → Sound m → all_told m (served ss) ≡ told_later m ss
unfolding all_told told_later served
told-are [] m h = refl
told-are (s ∷ ss) m h =
    ap₂ (λ (a : List ℕ) (rest : List (List ℕ)). a ∷ rest) (told_is m h s) (told-are ss (after m (serve s)) (after-sound m h (serve s)))
    ∙ ap (λ (x : List ℕ). told_of m (later m s) (tells m (current m) s) ∷ told_later x ss) (after_is m h s)

-- ---- from format

fresh : Sound (format 4096)
unfolding permitted
fresh = format-sound 4096 ((permitted? 4096).0 refl)

pub reached-is : (ss : List Service) → Reached.reached ss ≡ run_later (format 4096) ss
unfolding Reached.reached
reached-is ss = run_is ss (format 4096) fresh

pub answered-is : (ss : List Service) → Reached.answered ss ≡ answers_later (format 4096) ss
unfolding Reached.answered
answered-is ss = answers-are ss (format 4096) fresh

pub all-told-is : (ss : List Service) → Reached.told ss ≡ told_later (format 4096) ss
unfolding Reached.told
all-told-is ss = told-are ss (format 4096) fresh

pub refused-is : (ss : List Service) (s : Service) → Reached.refused_after ss s ≡ later (run_later (format 4096) ss) s
unfolding Reached.refused_after Reached.reached later
refused-is ss s =
    refusal-sound (run (format 4096) (served ss)) (run_sound (served ss) (format 4096) fresh) s
    ∙ ap (λ (x : List ℕ). first (refusals_of x (current x) s)) (run_is ss (format 4096) fresh)
