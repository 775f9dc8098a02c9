-- `script::digits::put_decimal` meets its contract. The library's digits are those of the definition. Assumes nothing.
use mathlib.Core.Path.{ap, ◌∙◌}
use lib.ListN.{length}
use native.Mathlib.Omega.{arith}
use Rattle.script.proofs.Decimals.{as_printed}
use Rattle.script.proofs.Puts.{put_same}
use Rattle.script.proofs.digits.put_decimal.Goals as goal

pub put-requires : goal.put-requires
put-requires c = omega (arith, ap length (c.as_bytes.ensures.value ∙ c.format.ensures.text ∙ as_printed c.args.x (omega arith)))

pub returns : goal.returns
returns c = put_same (c.as_bytes.ensures.value ∙ c.format.ensures.text ∙ as_printed c.args.x (omega arith)) c.put.ensures
