use Rattle.std.proofs.Common.{rules, ◌≡◌, ◌∙◌, ◌+◌, ◌-◌, ◌^◌, [], ◌++◌, nat_eq, true, false, drop, get_or, ap, sym, subst, if◌then◌else◌}
use Rattle.std.proofs.lemmas.List.{at_drop_more, at_drop_all}
use Rattle.std.proofs.KnownBytes.{Appends-trans}
use Rattle.std.specs.Io.KnownBytes.{Appends}
use Rattle.stdio.specs.Lines.{answer_line, answer_lines}
use mathlib.Core.List.{append_assoc, append-nil}
use Rattle.stdio.proofs.answers.print_answers.Goals as goal

pub returns-then-x : goal.returns-then-x
unfolding answer_lines
returns-then-x g c =
    let i = c.loop-x.x-index in
    let xs = c.args.answers.now in
    let step : answer_lines (drop i xs) ≡ (if nat_eq (get_or xs i 0) (2 ^ 64 - 1) then [] else answer_line (get_or xs i 0) ++ answer_lines (drop (i + 1) xs)) = at_drop_more answer_lines xs i 0 (search rules) in
    let test : nat_eq (get_or xs i 0) (2 ^ 64 - 1) ≡ true = search rules in
    let last : answer_lines (drop i xs) ≡ [] = step ∙ ap (λ t. if t then [] else answer_line (get_or xs i 0) ++ answer_lines (drop (i + 1) xs)) test in
    let whole : c.loop-x.invariant.0 ≡ answer_lines xs = sym (append-nil _) ∙ ap (λ l. c.loop-x.invariant.0 ++ l) (sym last) ∙ c.loop-x.invariant.2 in
    subst (Appends _ _) whole c.loop-x.invariant.1

pub loop-x-preserved : goal.loop-x-preserved
unfolding answer_lines
loop-x-preserved g c =
    let i = c.loop-x.x-index in
    let xs = c.args.answers.now in
    let step : answer_lines (drop i xs) ≡ (if nat_eq (get_or xs i 0) (2 ^ 64 - 1) then [] else answer_line (get_or xs i 0) ++ answer_lines (drop (i + 1) xs)) = at_drop_more answer_lines xs i 0 (search rules) in
    let test : nat_eq (get_or xs i 0) (2 ^ 64 - 1) ≡ false = search rules in
    let next : answer_lines (drop i xs) ≡ answer_line (get_or xs i 0) ++ answer_lines (drop (i + 1) xs) = step ∙ ap (λ t. if t then [] else answer_line (get_or xs i 0) ++ answer_lines (drop (i + 1) xs)) test in
    let done = c.loop-x.invariant.0 in
    (done ++ answer_line (get_or xs i 0), Appends-trans _ _ _ done _ c.loop-x.invariant.1 c.in_ok-print_answer.ensures, append_assoc done _ _ ∙ ap (λ l. done ++ l) (sym next) ∙ c.loop-x.invariant.2)

pub returns : goal.returns
unfolding answer_lines
returns g c =
    let i = c.loop-x.x-index in
    let xs = c.args.answers.now in
    let last : answer_lines (drop i xs) ≡ [] = at_drop_all answer_lines xs i (search rules) in
    let whole : c.loop-x.invariant.0 ≡ answer_lines xs = sym (append-nil _) ∙ ap (λ l. c.loop-x.invariant.0 ++ l) (sym last) ∙ c.loop-x.invariant.2 in
    subst (Appends _ _) whole c.loop-x.invariant.1
