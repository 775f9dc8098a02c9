-- `formatting::sizes::wrong_size` meets its contract. Each test that the code makes is one of the definition. Assumes nothing.
use mathlib.Core.Bool.{true}
use mathlib.Core.Path.{◌≡◌, sym, ap, ap₂, ◌∙◌}
use Prim.Native.Nat.{ℕ, ◌%◌, ◌*◌}
use native.Mathlib.Omega.{arith}
use lib.Dec.{ltb}
use lib.ListN.{length}
use lib.Pow.{pow_pos}
use Rattle.formatting.proofs.SizeLaws.{size-rest, size_few, size-most}
use Rattle.rules.specs.Conditions.{wrong_size}
use Rattle.std.proofs.Common.{inl, inr}
use Rattle.formatting.proofs.sizes.wrong_size.Goals.{then-m-w-ne0, else-m-w-ne0}
use Rattle.formatting.proofs.sizes.wrong_size.Goals as goal

pub nonzero_rem-m : goal.nonzero_rem-m
nonzero_rem-m c = omega (arith, c.page_words-w.ensures.0, pow_pos c.args.b.bits)

pub returns-then-n-lt16 : goal.returns-then-n-lt16
returns-then-n-lt16 c =
    let s = c.args in
    let e = ap (λ (w : ℕ). length s.m.now % w) c.page_words-w.ensures.0 in
    elim c.if-m-w-ne0.branch [
      | then-m-w-ne0 w ↦ (let h : wrong_size s.b.bits s.m.now ≡ true = size-rest s.b.bits s.m.now (λ q. w.if-m-w-ne0.true (e ∙ q)) in grind (arith, h, w))
      | else-m-w-ne0 w ↦ elim c.if-n-lt16.either [
        | inl h ↦ absurd (h w.if-m-w-ne0.false)
        | inr h ↦ (let k : wrong_size s.b.bits s.m.now ≡ true = size_few s.b.bits s.m.now (sym e ∙ w.if-m-w-ne0.false) (omega arith) in grind (arith, h, k, w))
      ]
    ]

pub returns-else-n-lt16 : goal.returns-else-n-lt16
returns-else-n-lt16 c =
    let words = c.page_words-w in
    let s = c.args in
    let e = ap (λ (w : ℕ). length s.m.now % w) words.ensures.0 in
    ap₂ (λ (w n : ℕ). ltb (4 * w) n) words.ensures.0 c.pages_in-n.ensures
    ∙ sym (size-most s.b.bits s.m.now (sym e ∙ c.if-n-lt16.false.0) (omega arith))
