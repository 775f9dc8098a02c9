-- `forms::threes::Listed::indices_test` meets its contract. Assumes nothing.
use mathlib.Core.Path.{◌≡◌}
use Prim.Native.Nat.{ℕ, ◌-◌, ◌<◌}
use lib.ListN.{length}
use Rattle.std.proofs.Common.{Option, Some, None}
use Rattle.std.specs.Option.{MatchOption}
use Rattle.memory.specs.Geometry.{page_words}
use Rattle.own_pages.specs.Asked.{indices_left}
use Rattle.forms.proofs.threes.Listed.indices_test.Given as goal

-- how many indices are left of n
abbrev pub left : ℕ → Option ℕ → ℕ
left n None = 0
left n (Some i) = n - i

abbrev pub invariant-loop-next : goal.invariant-loop-next
invariant-loop-next l =
    let o = l.self.own in
    let asked = indices_left o.width.bits o.words.now o.descriptor.0 in
    let n = page_words o.width.bits in
    (length l.met ≡ 10) × MatchOption l.next (asked l.initial.met 0 ≡ asked l.met n) (λ i. (i < n) × (asked l.initial.met 0 ≡ asked l.met i))

abbrev pub decreases-loop-next : goal.decreases-loop-next
decreases-loop-next l = left (page_words l.self.own.width.bits) l.next
