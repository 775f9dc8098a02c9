-- `forms::indices::next_used` meets its contract. Assumes nothing.
use mathlib.Core.Bool.{true, false}
use mathlib.Core.Path.{◌≡◌}
use Prim.Native.Nat.{ℕ, ◌≤◌, ◌<◌}
use native.Mathlib.Omega.{arith}
use Rattle.std.proofs.Common.{rules, tests}
use Rattle.std.specs.Option.{MatchOption}
use Rattle.std.proofs.lemmas.Iterator.{first_from_Range}
use Rattle.own_pages.specs.Asked.{no_tables}
use Rattle.own_pages.proofs.Laws.Asked.{skip_run}
use Rattle.forms.proofs.Laws.Met.{told_as}
use Rattle.forms.proofs.indices.next_used.Goals as goal

pub returns : goal.returns
returns c =
    let o = c.args.o.now in
    let b = o.width.bits in
    let m = o.words.now in
    let d = o.descriptor.0 in
    let s = c.next_row.ensures in
    let n = c.page_words.ensures.0 in
    let a = c.next_row.result in
    let e = c.page_words.result in
    let empty : ℕ → ℕ → Type 0 = λ i j. (k : ℕ) → i ≤ k → k < j → no_tables b m d k ≡ true in
    let found : MatchOption c.find.result (empty a e) (λ r. (a ≤ r) × (r < e) × (no_tables b m d r ≡ false) × empty a r) =
    first_from_Range _ _ _ _ (λ k. no_tables b m d k ≡ false) (λ k. no_tables b m d k ≡ true) c.find.ensures.ran (λ x q k. search (rules, tests)) (λ x q k. search (rules, tests)) in
    told_as c.find.result found
    (λ none. skip_run b m d s s.high (omega arith) (λ x y l. none x y (omega arith)))
    (λ r (x, y, z, p). (omega arith, skip_run b m d s x (omega arith) p))
