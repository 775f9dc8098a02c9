-- `judge::tree::all_marked` meets its contract. Assumes nothing.
use mathlib.Core.Bool.{Bool, true, false}
use mathlib.Core.List.{List}
use mathlib.Core.Logic.{◌≢◌}
use mathlib.Core.Path.{◌≡◌, sym, ap, ◌∙◌, subst}
use Prim.Native.Nat.{ℕ, zero, suc, ◌+◌, ◌-◌, ◌≤◌, ◌<◌}
use native.Mathlib.Omega.{arith}
use native.Mathlib.Nat.{pos_of_ne-zero}
use lib.ListN.{length, get_or, take, drop, length-take, length-drop}
use borrow.Author.Tests.{tests}
use Rattle.std.proofs.Common.{rules, get_or-take, get_or-drop}
use Rattle.std.proofs.lemmas.Iterator.{cases_from_all, YieldsList-from_slice}
use Rattle.std.specs.Bool.{MatchBool}
use Rattle.std.specs.List.{AllWithin, HoldsAt}
use Rattle.tally.proofs.Laws.Bits.{MarkedBelow, all_marked, below_all, word_next, word-stop, first_next, first-stop}
use Rattle.judge.proofs.tree.all_marked.Goals as goal

-- the words of ws but the first
abbrev others : List ℕ → List ℕ
others ws = take (length ws - 1) (drop 1 ws)

other-at : (ws : List ℕ) (k d : ℕ) → k < length (others ws) → get_or (others ws) k d ≡ get_or ws (1 + k) d
other-at ws k d h =
    get_or-take (length ws - 1) (drop 1 ws) k d (omega (arith, length-take (length ws - 1) (drop 1 ws))) ∙ get_or-drop 1 ws k d

-- r is the code's answer to whether each of them is all ones, where those of the first are
rest-told : (ws : List ℕ) (r : Bool) → 0 < length ws → ((i : ℕ) → get_or ws i 0 < 4294967296) → MarkedBelow ws 1
    → MatchBool r (AllWithin (λ x. x ≡ 4294967295) (others ws) 0 (length (others ws))) ((k : ℕ) × (k < length (others ws)) × HoldsAt (λ x. x ≢ 4294967295) (others ws) k)
    → r ≡ all_marked ws
rest-told ws true h fits first told = below_all ws (length ws - 1 + 1) (omega arith) (below (length ws - 1) (omega arith))
  where
    below : (n : ℕ) → n + 1 ≤ length ws → MarkedBelow ws (n + 1)
    below zero l = first
    below (suc n) l =
        let e = length-take (length ws - 1) (drop 1 ws) in
        let q = length-drop 1 ws in
        let i : n + 1 ≡ 1 + n = omega arith in
        let j : n + 1 + 1 ≡ suc n + 1 = omega arith in
        let one = ap (λ (k : ℕ). get_or ws k 0) i ∙ sym (other-at ws n 0 (omega (arith, e, q))) ∙ told n 0 (omega arith) (omega (arith, e, q)) in
        subst (MarkedBelow ws) j (word_next ws (n + 1) (omega arith) one (below n (omega arith)))
rest-told ws false h fits first (k, l, n) =
    let e = length-take (length ws - 1) (drop 1 ws) in
    let q = length-drop 1 ws in
    word-stop ws (1 + k) (omega (arith, e, q)) (fits (1 + k)) (omega arith) (λ z. n 0 (other-at ws k 0 l ∙ z))

pub returns-then-seen-eq0 : goal.returns-then-seen-eq0
returns-then-seen-eq0 c = let s = c.args in below_all s.seen.now 0 (omega arith) (λ p a l. absurd (omega arith))

pub returns-then-seen : goal.returns-then-seen
returns-then-seen c =
    let s = c.args in
    first-stop s.seen.now (pos_of_ne-zero c.if-seen-eq0.false) (omega (arith, c.type_inv.seen 0)) c.if-seen.true

pub returns : goal.returns
returns c =
    let s = c.args in
    rest-told s.seen.now c.all.result (pos_of_ne-zero c.if-seen-eq0.false) (λ i. omega (arith, c.type_inv.seen i))
    (first_next s.seen.now (pos_of_ne-zero c.if-seen-eq0.false) c.if-seen.false)
    (cases_from_all _ _ _ (λ x. x ≡ 4294967295) (λ x. x ≢ 4294967295) c.all.ensures.ran (YieldsList-from_slice (others s.seen.now) c.iter.ensures.rest)
    (λ x q k. search (rules, tests)) (λ x q k. search (rules, tests)))
