-- `text::parts::line_at` meets its contract. The line up to its end, and up to a comment. Assumes nothing.
use Rattle.text.proofs.Cuts.{line-is}
use Rattle.text.proofs.parts.line_at.Goals as goal

pub returns : goal.returns
returns c =
    let s = c.args in
    line-is s.text.now s.i c.find.result c.find-2.result c.requires c.find.ensures.0 c.find.ensures.1 c.find-2.ensures.0 c.find-2.ensures.1
