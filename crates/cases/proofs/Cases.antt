-- The table of cases holds: computed, without the test of soundness. Assumes nothing.
use mathlib.Core.Path.{◌≡◌, refl, fun_ext}
use mathlib.Core.Bool.{true}
use Rattle.common.specs.Expected.{all_hold}
use Rattle.cases.specs.Cases.{create_five, six_records, rows, formatting, reached, table}
use Rattle.cases.proofs.Reached.{reached_later, reached-is, formatting_words, formatting-is}
use Rattle.cases.proofs.Computing.{computing}

computed : all_hold (rows formatting_words reached_later) ≡ true
unfolding computing rows create_five six_records
computed = refl

pub cases : all_hold table ≡ true
unfolding table
cases =
    let f : formatting ≡ formatting_words = fun_ext (λ e. fun_ext (formatting-is e)) in
    let r : reached ≡ reached_later = fun_ext (λ e. fun_ext (λ n. fun_ext (reached-is e n))) in
    rw (f, r) computed
