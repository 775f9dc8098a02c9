-- A loop over the used places of the table s: where it begins, what each step gives, and where it ends. Assumes nothing.
use mathlib.Core.Path.{◌≡◌, sym, ap, ◌∙◌}
use mathlib.Core.Bool.{true}
use mathlib.Core.List.{List}
use Prim.Native.Nat.{ℕ, ◌+◌, ◌-◌, ◌≤◌, ◌<◌}
use native.Mathlib.Omega.{arith}
use lib.ListN.{length}
use Rattle.tally.specs.Search.{seek}
use Rattle.tally.specs.Rows.{used}
use Rattle.tally.specs.declared.rows.Used.{Used}
use Rattle.tally.proofs.Laws.Search as Search

-- u is what used_places gave for s
pub begun : {s : List ℕ} {w u : Used} → w ≡ u → (u.words.now ≡ s) × (u.at ≡ seek (used s) (length s - 0) 0)
    → (w.words.now ≡ s) × (w.at ≡ seek (used s) (length s - 0) 0)
begun {s} {w} e (f, g) = (ap (λ (t : Used). t.words.now) e ∙ f, ap (λ (t : Used). t.at) e ∙ g)

-- k is the place that the step from w gives, r where it stands then
pub given : (w : Used) {s : List ℕ} {k r : ℕ} → w.words.now ≡ s → (k ≡ w.at) × (w.at < length w.words.now)
    × (r ≡ seek (used w.words.now) (length w.words.now - (w.at + 1)) (w.at + 1))
    → (k ≡ w.at) × (k < length s) × (used s k ≡ true) × (r ≡ seek (used s) (length s - (k + 1)) (k + 1))
given w e (f, g, h) = (f, rw (f, sym e) g, rw (f, sym e) (w.here g), rw (f, sym e) h)

pub ended : (w : Used) {s : List ℕ} → w.words.now ≡ s → w.at ≡ length w.words.now → length s ≤ w.at
ended w e f = omega (arith, ap length e)

pub next_low : (s : List ℕ) (k : ℕ) {r : ℕ} → r ≡ seek (used s) (length s - (k + 1)) (k + 1) → k + 1 ≤ r
next_low s k e = Search.next_low (used s) (length s) (k + 1) e
