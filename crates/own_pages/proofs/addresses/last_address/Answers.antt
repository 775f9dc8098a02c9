-- `own_pages::addresses::last_address` meets its contract. Assumes nothing.
use mathlib.Core.Path.{ap, sym, ◌∙◌, subst}
use Prim.Native.Nat.{ℕ, ◌-◌, ◌*◌, ◌<◌}
use native.Mathlib.Nat.{mul-le-mul, mul-pos}
use native.Mathlib.Omega.{arith}
use lib.Pow.{pow_pos}
use Rattle.memory.specs.Geometry.{address}
use Rattle.own_pages.proofs.Laws.Places.{last_fits}
use Rattle.own_pages.proofs.addresses.last_address.Goals as goal

pub overflow_mul-n : goal.overflow_mul-n
overflow_mul-n c =
    let l = c.page_words-n.ensures.1 in
    omega (arith, mul-le-mul {n₂ = 1024} {m₂ = 1024} l l)

pub overflow_sub-n : goal.overflow_sub-n
overflow_sub-n c =
    let l = subst (λ (n : ℕ). 0 < n) (sym c.page_words-n.ensures.0) (pow_pos c.args.b.bits) in
    mul-pos l l

pub address_of-requires : goal.address_of-requires
address_of-requires c =
    let b = c.args.b.bits in
    let h = c.args.b.known in
    record { fits = subst (λ (n : ℕ). address b (n * n - 1) < 4294967296) (sym c.page_words-n.ensures.0) (last_fits b h.1) }

pub returns : goal.returns
returns c =
    let b = c.args.b.bits in
    c.address_of.ensures ∙ ap (λ (n : ℕ). address b (n * n - 1)) c.page_words-n.ensures.0
