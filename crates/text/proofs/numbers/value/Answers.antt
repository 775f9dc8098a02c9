-- `text::numbers::value` meets its contract. The value so far with the digits left is the whole. Assumes nothing.
use mathlib.Core.Path.{◌≡◌, refl, sym, ap, ◌∙◌}
use Prim.Native.Nat.{ℕ, ◌+◌, ◌-◌, ◌*◌}
use lib.ListN.{get_or, drop}
use native.Mathlib.Omega.{arith}
use borrow.Author.Rules.{rules}
use Rattle.text.specs.Numbers.{value}
use Rattle.text.proofs.Values.{digit-here, value-more, value-over, grows, ten-digits}
use Rattle.text.proofs.numbers.value.Goals as goal

pub loop-x-init : goal.loop-x-init
loop-x-init c = (refl, c.requires.1, search rules)

pub overflow_mul-v : goal.overflow_mul-v
overflow_mul-v c = omega (arith, ten-digits c.loop-x.v c.loop-x.x-index c.loop-x.invariant.2 (omega arith))

pub overflow_sub-x : goal.overflow_sub-x
overflow_sub-x c =
    let p = c.loop-x in
    (digit-here c.args.w.now p.x-index (omega arith) p.invariant.1).0.0

pub overflow_add-v : goal.overflow_add-v
overflow_add-v c =
    let p = c.loop-x in
    let d = digit-here c.args.w.now p.x-index (omega arith) p.invariant.1 in
    let f : c.from.result ≡ get_or c.args.w.now p.x-index 0 - 48 = search rules in
    omega (arith, ten-digits p.v p.x-index p.invariant.2 (omega arith))

pub loop-x-preserved : goal.loop-x-preserved
loop-x-preserved c =
    let w = c.args.w.now in
    let s = c.loop-x in
    let d = digit-here w s.x-index (omega arith) s.invariant.1 in
    let f : c.from.result ≡ get_or w s.x-index 0 - 48 = search rules in (
      ap (λ (n : ℕ). value (10 * s.v + n) (drop (s.x-index + 1) w)) f ∙ sym (value-more w s.x-index s.v (omega arith)) ∙ s.invariant.0,
      d.1,
      grows s.v s.x-index _ s.invariant.2 (omega (arith, d.0)),
    )

pub returns : goal.returns
returns c = sym (value-over c.args.w.now c.loop-x.x-index c.loop-x.v (omega arith)) ∙ c.loop-x.invariant.0
