-- `text::parts::leading` meets its contract. Assumes nothing.
use mathlib.Core.Bool.{not}
use mathlib.Core.Path.{◌≡◌, ap, ◌∙◌}
use Prim.Native.Nat.{ℕ}
use lib.ListN.{length}
use native.Mathlib.Omega.{arith}
use Rattle.std.proofs.Common.{rules, tests, Option}
use Rattle.std.proofs.lemmas.Iterator.{YieldsList-from_slice}
use Rattle.std.proofs.lemmas.Iterator.Search.{position_from_yields_List}
use Rattle.std.specs.List.{position}
use Rattle.std.specs.Option.{unwrap_or}
use Rattle.text.specs.Steps.{is_kind}
use Rattle.text.proofs.Splits.{leading-place, leading-most}
use Rattle.text.proofs.parts.leading.Goals as goal

pub returns : goal.returns
returns c =
    let s = c.args.s.now in
    let p : c.position.result ≡ position (λ (x : ℕ). not (is_kind c.args.t x)) s =
    position_from_yields_List (λ (x : ℕ). not (is_kind c.args.t x)) _ _ c.position.result c.position.ensures.ran (YieldsList-from_slice s c.iter.ensures.rest) (λ x b q k. search (rules, tests)) in
    let e = c.unwrap_or.ensures ∙ ap (λ (o : Option ℕ). unwrap_or o (length s)) p ∙ leading-place c.args.t s in
    (e, omega (arith, e, leading-most c.args.t s))
