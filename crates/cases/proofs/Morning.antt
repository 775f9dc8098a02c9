-- The morning's answers in both editions: computed, without the test of soundness. Assumes nothing.
use mathlib.Core.Path.{◌≡◌, refl, ap}
use mathlib.Core.List.{List}
use mathlib.Core.Bool.{Bool, true, ◌&&◌}
use Prim.Native.Nat.{ℕ}
use Rattle.common.specs.Expected.{same}
use Rattle.memory.specs.Geometry.{width_of}
use Rattle.rules.specs.Row.{Answer}
use Rattle.rules.specs.Replay.{script}
use Rattle.cases.specs.Morning.{script_words, fifteen_answers, bytes_of, morning}
use Rattle.cases.proofs.Reached.{answers_to_later, answers_to-is}
use Rattle.cases.proofs.Computing.{computing}

unfoldable morning_later : ℕ → ℕ → Bool
morning_later e k = same (answers_to_later e 20 (script (width_of e) (bytes_of (script_words k)))) (fifteen_answers k)

morning-is : (e k : ℕ) → morning e k ≡ morning_later e k
unfolding morning morning_later
morning-is e k = ap (λ (x : List Answer). same x (fifteen_answers k)) (answers_to-is e 20 (script (width_of e) (bytes_of (script_words k))))

computed : morning_later 0 1 && morning_later 1 16 ≡ true
unfolding computing script_words fifteen_answers same morning_later
computed = refl

-- the old edition, and the new one with every page address times 16
pub fifteen : morning 0 1 && morning 1 16 ≡ true
fifteen = rw (morning-is 0 1, morning-is 1 16) computed
