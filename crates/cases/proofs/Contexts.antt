-- The worked case of notify, dispatch and resume: computed, without the test of soundness. Assumes nothing.
use mathlib.Core.Path.{◌≡◌, refl, fun_ext}
use mathlib.Core.Option.{some}
use mathlib.Core.Bool.{true, ◌&&◌}
use mathlib.Core.List.{List, [], ◌∷◌}
use Rattle.common.specs.Expected.{all_hold, same, same_words, same_lists}
use Rattle.rules.specs.Row.{no}
use Rattle.rules.specs.Call.{Call, notify, dispatch, resume}
use Rattle.cases.specs.Cases.{reached}
use Rattle.cases.specs.Contexts.{up_from, worked, worked_answers, worked_contexts, answered, resumed_words, flag_rows, flags}
use Rattle.cases.proofs.Reached.{reached_later, reached-is, answers_to_later, answers_to-is, contexts_to_later, contexts_to-is}
use Rattle.cases.proofs.Computing.{computing}

other_calls : List Call
other_calls = notify 0 7 8 (up_from 11) ∷ dispatch 4 ∷ resume 256 4 ∷ []

answers-computed : same (answers_to_later 0 20 (some worked)) worked_answers && same (answers_to_later 1 16 (some other_calls)) (no 24 ∷ no 24 ∷ no 24 ∷ []) ≡ true
unfolding computing up_from worked worked_answers same other_calls
answers-computed = refl

pub worked-answers : answered ≡ true
unfolding answered other_calls
worked-answers = rw (answers_to-is 0 20 (some worked), answers_to-is 1 16 (some other_calls)) answers-computed

contexts-computed : same_lists (contexts_to_later 0 20 worked) worked_contexts ≡ true
unfolding computing up_from worked worked_contexts same_words same_lists
contexts-computed = refl

pub worked-contexts : resumed_words ≡ true
unfolding resumed_words
worked-contexts = rw (contexts_to-is 0 20 worked) contexts-computed

flags-computed : all_hold (flag_rows reached_later) ≡ true
unfolding computing flag_rows up_from worked
flags-computed = refl

pub worked-flags : all_hold flags ≡ true
unfolding flags
worked-flags =
    let r : reached ≡ reached_later = fun_ext (λ e. fun_ext (λ n. fun_ext (reached-is e n))) in
    rw r flags-computed
