-- `own_pages::own::Own::word_of` meets its contract. Assumes nothing.
use mathlib.Core.Path.{ap, ◌∙◌}
use Prim.Native.Nat.{ℕ}
use native.Mathlib.Omega.{arith}
use lib.ListN.{get_or}
use Rattle.own_pages.proofs.own.Own.word_of.Goals as goal

pub bounds-self-k : goal.bounds-self-k
bounds-self-k c = omega (arith, c.requires.whole c.if-self.true)

pub returns-then-self : goal.returns-then-self
returns-then-self c = ap (λ (x : ℕ). get_or c.args.self.now.words.now x 0) c.index-k.ensures.0

pub returns : goal.returns
returns c = c.read.ensures ∙ ap (λ (x : ℕ). get_or c.args.self.now.words.now x 0) c.index-k.ensures.0
