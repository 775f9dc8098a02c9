-- `kernel::verdicts::verdict` meets its contract. It is that of the judge. Assumes nothing.
use mathlib.Core.Path.{sym, ◌∙◌}
use Rattle.rules.specs.Row.{reply}
use Rattle.kernel.proofs.Judged.{verdict-sound, verdict-damaged}
use Rattle.kernel.proofs.verdicts.verdict.Goals as goal

pub returns-then-is_sound : goal.returns-then-is_sound
unfolding reply
returns-then-is_sound c =
    let is-sound = c.is_sound in
    rw (verdict-sound c.args.m.now (sym is-sound.ensures ∙ c.if-is_sound.true))

pub returns : goal.returns
unfolding reply
returns c =
    let is-sound = c.is_sound in
    rw (verdict-damaged c.args.m.now (sym is-sound.ensures ∙ c.if-is_sound.false))
