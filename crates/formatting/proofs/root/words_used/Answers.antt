-- `formatting::root::words_used` meets its contract. Each test that the code makes is one of the definition. Assumes nothing.
use native.Mathlib.Omega.{arith}
use Rattle.formatting.proofs.WordLaws.{after-header, after-descriptor, after-directory, after_list, all-shadow, after_table}
use Rattle.formatting.proofs.root.words_used.Goals as goal

pub returns-in-0 : goal.returns-in-0
returns-in-0 c = λ b i e h. let s = c.args in after-header b s.n s.t e s.page.0 i c.in-0.is h

pub returns-in-1 : goal.returns-in-1
returns-in-1 c = λ b i e h. let s = c.args in after-descriptor b s.n s.t e s.page.0 i c.in-1.is h

pub returns-in-2-to-4 : goal.returns-in-2-to-4
returns-in-2-to-4 c = λ b i e h. let s = c.args in
    after-directory b s.n s.t e s.page.0 i (omega arith) (omega arith) (omega arith) h

pub returns-in-5 : goal.returns-in-5
returns-in-5 c = λ b i e h. let s = c.args in after_list b s.n s.t e s.page.0 i c.in-5.is h

pub returns-in_default : goal.returns-in_default
returns-in_default c = λ b i e h. let s = c.args in
    all-shadow b s.n s.t e s.page.0 i (omega arith) c.if-p-ne0.true

pub returns-in_default-2 : goal.returns-in_default-2
returns-in_default-2 c = λ b i e h. let s = c.args in
    after_table b s.n s.t e s.page.0 i (omega arith) (omega arith) h
