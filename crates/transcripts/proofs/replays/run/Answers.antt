-- `transcripts::replays::run` meets its contract. Format passes on N pages. Assumes nothing.
use mathlib.Core.Path.{◌∙◌}
use borrow.Author.Rules.{rules}
use Rattle.rules.specs.Bytes.{word_in}
use Rattle.transcripts.proofs.Starts.{header, formatted}
use Rattle.transcripts.proofs.replays.run.Goals as goal

pub transcribe-requires : goal.transcribe-requires
transcribe-requires c =
    let h = header c.args.bytes.now c.requires.bytes_value in record { bytes_value = c.requires.bytes_value; formatted = c.format.ensures.1 ∙ formatted c.args.m.now (word_in c.args.bytes.now 0) c.requires.sized h.least h.most; room = search rules }
