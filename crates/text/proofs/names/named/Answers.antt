-- `text::names::named` meets its contract. The table has the names of the definition. Assumes nothing.
use mathlib.Core.Path.{◌≡◌, sym, ◌∙◌}
use native.Mathlib.Omega.{arith}
use Rattle.std.proofs.Common.{rules, tests, bytes_eq}
use Rattle.std.proofs.lemmas.Iterator.{YieldsList-from_slice}
use Rattle.std.proofs.lemmas.Iterator.Search.{position_from_yields_List}
use Rattle.text.specs.Names.{names}
use Rattle.text.proofs.Called.{place, nowhere, somewhere}
use Rattle.text.proofs.names.named.Goals as goal

pub returns-in_err-place : goal.returns-in_err-place
returns-in_err-place c =
    let found : c.position.result ≡ place c.args.w.now names =
    position_from_yields_List (λ n. bytes_eq c.args.w.now n.now) _ _ c.position.result c.position.ensures.ran (YieldsList-from_slice _ c.iter.ensures.rest) (λ x b q k. search (rules, tests)) in
    rw c.from_residual.ensures (nowhere c.args.w.now (sym found ∙ c.in_err-place.was), search rules)

pub returns : goal.returns
returns c =
    let found : c.position.result ≡ place c.args.w.now names =
    position_from_yields_List (λ n. bytes_eq c.args.w.now n.now) _ _ c.position.result c.position.ensures.ran (YieldsList-from_slice _ c.iter.ensures.rest) (λ x b q k. search (rules, tests)) in
    let h = somewhere c.args.w.now c.in_ok-place.place (sym found ∙ c.in_ok-place.was) in
    (h.0, (omega arith, omega (arith, h.1)))
