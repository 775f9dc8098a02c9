-- `common::replies::write_words` meets its contract. What is left of the words gives what is left to write. Assumes nothing.
use mathlib.Core.Path.{sym, ◌∙◌}
use native.Mathlib.Omega.{arith}
use borrow.Author.Rules.{rules}
use Rattle.common.proofs.Writing.{words-none, words_more, words-all}
use Rattle.common.proofs.replies.write_words.Goals as goal

pub loop-k-init : goal.loop-k-init
loop-k-init c =
    let s = c.args in
    (search rules, words-none s.answers.now s.words.now s.p)

pub loop-k-preserved : goal.loop-k-preserved
loop-k-preserved c =
    let s = c.args in
    let l = c.loop-k in
    (search rules, words_more l.answers s.words.now s.p l.k (omega arith) c.from.ensures ∙ l.invariant.1)

pub returns : goal.returns
returns c =
    let s = c.args in
    let l = c.loop-k in
    sym (words-all l.answers s.words.now s.p l.k (omega arith)) ∙ l.invariant.1
