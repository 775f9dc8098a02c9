-- `own_pages::own::Own::words_at` meets its contract. Assumes nothing.
use mathlib.Core.Path.{ap, ◌∙◌}
use Prim.Native.Nat.{ℕ}
use Rattle.memory.specs.Words.{word}
use Rattle.own_pages.proofs.own.Own.words_at.Goals as goal

pub word_of-requires : goal.word_of-requires
word_of-requires c = record { place = c.requires.place; whole = λ e. (c.args.self.now.lie e).0 }

pub word_of-requires-2 : goal.word_of-requires-2
word_of-requires-2 c =
    let h = c.requires in
    record { place = h.place; whole = λ e. (c.args.self.now.lie e).1 }

pub word_of-requires-3 : goal.word_of-requires-3
word_of-requires-3 c =
    let h = c.requires in
    record { place = h.place; whole = λ e. (c.args.self.now.lie e).2 }

pub returns : goal.returns
returns c =
    let h = c.requires in
    let s = c.args in
    record {
      in_directory = c.word_of.ensures ∙ ap (λ (p : ℕ). word s.self.now.width.bits s.self.now.words.now p s.i) c.args.self.now.at_directory;
      in_shadow1 = c.word_of-2.ensures ∙ ap (λ (p : ℕ). word s.self.now.width.bits s.self.now.words.now p s.i) c.args.self.now.at_shadow1;
      in_shadow2 = c.word_of-3.ensures ∙ ap (λ (p : ℕ). word s.self.now.width.bits s.self.now.words.now p s.i) c.args.self.now.at_shadow2;
    }
