-- The worked case holds: computed, without the test of soundness. Assumes nothing.
use mathlib.Core.Path.{◌≡◌, refl, ap, ◌∙◌}
use mathlib.Core.List.{List, ◌++◌}
use mathlib.Core.Bool.{true}
use Prim.Native.Nat.{ℕ}
use Rattle.common.specs.Row.{Answer}
use Rattle.common.specs.Expected.{same, same_words, same_lists}
use Rattle.block_memory.specs.Format.{format}
use Rattle.block_cases.specs.Case.{left, left_answers, right, right_answers, afterwards, afterwards_answers, blocks, answers_hold, blocks_hold, words_back}
use Rattle.block_cases.proofs.Later.{run_later, answers_later, told_later, reached-is, answered-is, all-told-is}
use Rattle.block_cases.proofs.Computing.{computing}

answers-computed : same (answers_later (format 4096) (left ++ right ++ afterwards)) (left_answers ++ right_answers ++ afterwards_answers) ≡ true
unfolding computing left right afterwards left_answers right_answers afterwards_answers same
answers-computed = refl

pub answers-hold : answers_hold ≡ true
unfolding answers_hold
answers-hold =
    ap (λ (x : List Answer). same x (left_answers ++ right_answers ++ afterwards_answers)) (answered-is (left ++ right ++ afterwards)) ∙ answers-computed

blocks-computed : same_lists (told_later (format 4096) (left ++ right ++ afterwards)) blocks ≡ true
unfolding computing left right afterwards blocks same_lists same_words
blocks-computed = refl

pub blocks-hold : blocks_hold ≡ true
unfolding blocks_hold
blocks-hold = ap (λ (x : List (List ℕ)). same_lists x blocks) (all-told-is (left ++ right ++ afterwards)) ∙ blocks-computed

words-computed : same_words (run_later (format 4096) (left ++ right)) (format 4096) ≡ true
unfolding computing left right same_words
words-computed = refl

pub words_back_lem : words_back ≡ true
unfolding words_back
words_back_lem = ap (λ (x : List ℕ). same_words x (format 4096)) (reached-is (left ++ right)) ∙ words-computed
