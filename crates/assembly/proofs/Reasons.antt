-- Why a call's line can't be read, by what the tests say. Assumes nothing.
use mathlib.Core.Path.{◌≡◌, refl}
use mathlib.Core.Bool.{Bool, true, false, cond, not}
use mathlib.Core.List.{List, ◌∷◌}
use Prim.Native.Nat.{ℕ, ◌+◌, ◌*◌, ◌≤◌, ◌<◌}
use native.Mathlib.Nat.{le_antisymm}
use native.Mathlib.Omega.{arith}
use lib.Dec.{eqb, ltb}
use lib.ListN.{length}
use borrow.Author.Tests.{eq-eqb, ne_eqb, lt-ltb, le-ltb, eqb-false, ltb-false, not-false}
use Rattle.rules.specs.Replay.{argument_count}
use Rattle.text.specs.Numbers.{all_numbers}
use Rattle.text.specs.Names.{call_number}
use Rattle.text.specs.Lines.{reason}
use Rattle.assembly.specs.declared.Reason.{Reason}
use Rattle.assembly.specs.declared.Reason.TheVariants.{NoPages, UnknownCall, TooFew, TooMany, NoNumber, LongScript, NoLine}
use Rattle.assembly.specs.Told.{number_of}

row : Bool → Bool → Bool → Bool → Bool → ℕ
row unknown few many other long = cond unknown 2 (cond few 3 (cond many 4 (cond other 5 (cond long 6 0))))

clear : (s t u v w : Bool) → row s t u v w ≡ 0 → (s ≡ false) × (t ≡ false) × (u ≡ false) × (v ≡ false) × (w ≡ false)
unfolding row
clear true t u v w e = absurd (omega arith)
clear false true u v w e = absurd (omega arith)
clear false false true v w e = absurd (omega arith)
clear false false false true w e = absurd (omega arith)
clear false false false false true e = absurd (omega arith)
clear false false false false false e = (refl, refl, refl, refl, refl)

module _ (at : ℕ) (w : List ℕ) (ws : List (List ℕ)) where
  -- the record is whole, and there is room for it
  pub record Fine : Type 0 where
    pub known : call_number w ≡ 0 → ⊥
    pub counted : length ws ≡ argument_count (call_number w)
    pub numbers : all_numbers ws ≡ true
    pub room : at + 4 + 4 * length ws ≤ 4096

  pub fine : reason at (w ∷ ws) ≡ 0 → Fine
  unfolding reason row
  fine e =
      let n = call_number w in
      let most = argument_count n in
      let h = clear (eqb n 0) (ltb (length ws) most) (ltb most (length ws)) (not (all_numbers ws)) (ltb 4096 (at + 4 + 4 * length ws)) e in
      record {
        known = eqb-false n 0 h.0;
        counted = le_antisymm (ltb-false most (length ws) h.2) (ltb-false (length ws) most h.1);
        numbers = not-false (all_numbers ws) h.3;
        room = ltb-false 4096 (at + 4 + 4 * length ws) h.4;
      }

  -- n, most and given are what the code found
  module _ (n most given : ℕ) (p : n ≡ call_number w) (q : most ≡ argument_count n) (r : given ≡ length ws) where
    by_row : row (eqb n 0) (ltb given most) (ltb most given) (not (all_numbers ws)) (ltb 4096 (at + 4 + 4 * given)) ≡ reason at (w ∷ ws)
    unfolding reason row
    by_row = rw (q, p, r) refl

    pub unknown : n ≡ 0 → 2 ≡ reason at (w ∷ ws)
    unfolding row
    unknown e = rw (eq-eqb n 0 e) at by_row

    pub few : (n ≡ 0 → ⊥) → given < most → 3 ≡ reason at (w ∷ ws)
    unfolding row
    few e h = rw (ne_eqb n 0 e, lt-ltb given most h) at by_row

    pub many : (n ≡ 0 → ⊥) → most < given → 4 ≡ reason at (w ∷ ws)
    unfolding row
    many e h = let l : most ≤ given = omega arith in rw (ne_eqb n 0 e, le-ltb given most l, lt-ltb most given h) at by_row

    pub others : (n ≡ 0 → ⊥) → most ≤ given → given ≤ most → all_numbers ws ≡ false → 5 ≡ reason at (w ∷ ws)
    unfolding row
    others e h k f = rw (ne_eqb n 0 e, le-ltb given most h, le-ltb most given k, f) at by_row

    pub long : (n ≡ 0 → ⊥) → most ≤ given → given ≤ most → all_numbers ws ≡ true → 4096 < at + 4 + 4 * given → 6 ≡ reason at (w ∷ ws)
    unfolding row
    long e h k f l = rw (ne_eqb n 0 e, le-ltb given most h, le-ltb most given k, f, lt-ltb 4096 (at + 4 + 4 * given) l) at by_row

    pub none : (n ≡ 0 → ⊥) → most ≤ given → given ≤ most → all_numbers ws ≡ true → at + 4 + 4 * given ≤ 4096 → 0 ≡ reason at (w ∷ ws)
    unfolding row
    none e h k f l = rw (ne_eqb n 0 e, le-ltb given most h, le-ltb most given k, f, le-ltb 4096 (at + 4 + 4 * given) l) at by_row

-- a reason has a number other than 0
pub number-some : (why : Reason) → number_of why ≡ 0 → ⊥
number-some NoPages e = omega arith
number-some UnknownCall e = omega arith
number-some TooFew e = omega arith
number-some TooMany e = omega arith
number-some NoNumber e = omega arith
number-some LongScript e = omega arith
number-some NoLine e = omega arith
