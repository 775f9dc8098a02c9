use Rattle.stdio.proofs.Taking.{loses-first}
use Rattle.std.proofs.Common.{rules, ◌≡◌, ◌-◌, length, take, subst}
use Rattle.stdio.specs.Words.{LosesWords}
use Rattle.stdio.proofs.input.next_part.Goals as goal

pub returns-clause-rest : goal.returns-clause-rest
returns-clause-rest g c =
    let count : length (take (c.in_ok-n.n - 0) c.args.words.now) ≡ c.in_ok-n.n = search rules in
    loses-first _ _ _ _ c.in_ok-n.ensures.rest (subst (λ k. LosesWords k (g.R.Read.remaining c.next_count.new.input) (g.R.Read.remaining c.next_words.new.input)) count c.in_ok-next_words.ensures.rest)
