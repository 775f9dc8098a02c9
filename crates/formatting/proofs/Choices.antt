-- What format answers and leaves, by the tests that the code makes. Assumes nothing.
use mathlib.Core.Path.{◌≡◌, sym, ap, ◌∙◌}
use mathlib.Core.List.{List}
use mathlib.Core.Bool.{Bool, true, false, ◌||◌}
use Prim.Native.Nat.{ℕ, ◌≤◌, ◌<◌}
use borrow.Author.Tests.{le-leb, lt-leb}
use Rattle.memory.specs.Geometry.{width_of}
use Rattle.memory.specs.Edition.{width}
use Rattle.memory.specs.Format.{format}
use Rattle.rules.specs.Row.{ok, no}
use Rattle.rules.specs.Call.{format_all}
use Rattle.rules.specs.Conditions.{pages_in, wrong_size, unfit}
use Rattle.rules.specs.Refusals.{refusals}
use Rattle.rules.specs.Effects.{effect}
use Rattle.rules.specs.Calls.{result}
use Rattle.rules.specs.Editions.{answer, after}
use Rattle.rules.proofs.Rows.{on, at, none, answer-no, after-no, answer_ok, after-ok}

module _ (m : List ℕ) (e : ℕ) where
  unfit-edition : 2 ≤ e → unfit e m ≡ true
  unfit-edition h = ap (λ (t : Bool). t || wrong_size (width_of e) m) (le-leb 2 e h)

  unfit-size : e < 2 → {b : ℕ} {t : Bool} → b ≡ width_of e → wrong_size b m ≡ t → unfit e m ≡ t
  unfit-size h p q = ap (λ (t : Bool). t || wrong_size (width_of e) m) (lt-leb 2 e h) ∙ ap (λ (x : ℕ). wrong_size x m) (sym p) ∙ q

  stopped : unfit e m ≡ true → (no 2 ≡ answer m (format_all e)) × (m ≡ after m (format_all e))
  unfolding refusals answer after
  stopped h = (sym (answer-no (width m) m (format_all e) 1 (at h)), sym (after-no (width m) m (format_all e) 1 (at h)))

  pub no-edition : 2 ≤ e → (no 2 ≡ answer m (format_all e)) × (m ≡ after m (format_all e))
  no-edition h = stopped (unfit-edition h)

  pub no_size : e < 2 → {b : ℕ} → b ≡ width_of e → wrong_size b m ≡ true → (no 2 ≡ answer m (format_all e)) × (m ≡ after m (format_all e))
  no_size h p q = stopped (unfit-size h p q)

  pub formatted : e < 2 → {b : ℕ} → b ≡ width_of e → wrong_size b m ≡ false → {m' : List ℕ} → m' ≡ format b (pages_in b m)
      → (ok 0 ≡ answer m (format_all e)) × (m' ≡ after m (format_all e))
  unfolding refusals result effect answer after
  formatted h p q r =
      let u = unfit-size h p q in
      let row = on u none in
      (sym (answer_ok (width m) m (format_all e) row), r ∙ ap (λ (x : ℕ). format x (pages_in x m)) p ∙ sym (after-ok (width m) m (format_all e) row))
