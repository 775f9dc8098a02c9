-- `exports::pauses::tumashqin_resume` meets its contract. What the kernel's call answers is packed, and the words beside it are copied. Assumes nothing.
use mathlib.Core.Path.{ap, ◌∙◌}
use mathlib.Core.List.{List}
use Prim.Native.Nat.{ℕ}
use Rattle.memory.specs.Words.{overwrite}
use Rattle.answers.specs.Packed.{packed}
use Rattle.exports.proofs.pauses.tumashqin_resume.Goals as goal

pub returns : goal.returns
returns c =
    let out = c.args.out.now in
    let r = c.resume-r.ensures in
    (c.pack.ensures ∙ ap packed r.0, c.copy.ensures ∙ ap (λ (ws : List ℕ). overwrite out 0 ws) r.1, r.2)
