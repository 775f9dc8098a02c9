-- `pages::counts::count_of` meets its contract: the words that are left give what is left of the count. Assumes nothing.
use mathlib.Core.Path.{◌≡◌, refl, sym, ap, ◌∙◌}
use mathlib.Core.Bool.{Bool, true, false}
use Prim.Native.Nat.{ℕ, suc, ◌+◌, ◌≤◌}
use native.Mathlib.Omega.{arith}
use native.Mathlib.Numerals.{add-one}
use borrow.Author.Tests.{eqb-true, eqb-false}
use lib.Dec.{eqb}
use lib.ListN.{get_or, drop, drop_of_length-le}
use lib.Seq.{drop-cons}
use Rattle.std.specs.Int.{from_bool}
use Rattle.walk.specs.Lists.{hit, hit_eq, hit_other, count, count_cons, count_nil}
use Rattle.pages.proofs.counts.count_of.Goals as goal

as_hit : (x y : ℕ) → from_bool (eqb x y) ≡ hit x y
as_hit x y = pick (eqb x y) refl
  where
    pick : (t : Bool) → eqb x y ≡ t → from_bool t ≡ hit x y
    pick true e = sym (hit_eq x y (eqb-true x y e))
    pick false e = sym (hit_other x y (eqb-false x y e))

at-most : (t : Bool) → from_bool t ≤ 1
at-most true = omega arith
at-most false = omega arith

pub loop-y-preserved : goal.loop-y-preserved
loop-y-preserved c =
    let p = c.loop-y in
    let s = c.args in
    let more : count s.x (drop p.y-index s.s.now) ≡ hit s.x (get_or s.s.now p.y-index 0) + count s.x (drop (p.y-index + 1) s.s.now) =
    rw (add-one p.y-index, drop-cons s.s.now p.y-index 0 (omega arith)) (count_cons s.x (get_or s.s.now p.y-index 0) (drop (suc p.y-index) s.s.now)) in
    let one : c.from-k.result ≡ hit s.x (get_or s.s.now p.y-index 0) = c.from-k.ensures ∙ as_hit s.x (get_or s.s.now p.y-index 0) in
    (omega (arith, p.invariant.0, c.from-k.ensures, at-most (eqb s.x (get_or s.s.now p.y-index 0))), omega (arith, p.invariant.1, one, more))

pub returns : goal.returns
returns c =
    let p = c.loop-y in
    let s = c.args in
    omega (arith, p.invariant.1, ap (count s.x) (drop_of_length-le s.s.now {i = p.y-index} (omega arith)), count_nil s.x)
