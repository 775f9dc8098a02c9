-- What a script's header gives: the memory's size, and what format leaves there. Assumes nothing.
use mathlib.Core.Path.{◌≡◌, refl, sym, ap, ◌∙◌}
use mathlib.Core.Bool.{Bool, true, false, false≢true}
use mathlib.Core.List.{List}
use Prim.Native.Nat.{ℕ, ◌*◌, ◌≤◌}
use native.Mathlib.Omega.{arith}
use lib.ListN.{length}
use Rattle.memory.specs.Format.{format}
use Rattle.rules.specs.Bytes.{word_in}
use Rattle.rules.specs.Call.{format_all}
use Rattle.rules.specs.Conditions.{pages_in}
use Rattle.rules.specs.Editions.{after}
use Rattle.rules.specs.Replay.{script}
use Rattle.rules.proofs.steps.Editions.{format-leaves}
use Rattle.script.specs.Walk.{is_script, good_header}
use Rattle.script.proofs.Heads.{header?, no_header}

pub record Header (bs : List ℕ) : Type 0 where
  pub long : 12 ≤ length bs
  pub least : 16 ≤ word_in bs 0
  pub most : word_in bs 0 ≤ 256

pub header : (bs : List ℕ) → is_script (script 6 bs) ≡ true → Header bs
header bs e = pick (good_header 6 bs) refl
  where
    pick : (t : Bool) → good_header 6 bs ≡ t → Header bs
    pick true p = let h = (header? 6 bs).0 p in record { long = h.0.0.0.0.0; least = h.0.1; most = h.1 }
    pick false p = absurd (false≢true (sym (no_header 6 bs p) ∙ e))

-- the check of a script, where the width is 6
pub checked : (bs : List ℕ) {b : ℕ} {r t : Bool} → b ≡ 6 → r ≡ is_script (script b bs) → r ≡ t → is_script (script 6 bs) ≡ t
checked bs e f g = ap (λ (b : ℕ). is_script (script b bs)) (sym e) ∙ sym f ∙ g

-- format of the old edition passes on N pages, and leaves the words of format
pub formatted : (m : List ℕ) (n : ℕ) → length m ≡ n * 64 → 16 ≤ n → n ≤ 256 → after m (format_all 0) ≡ format 6 n
formatted m n l h k =
    let p : pages_in 6 m ≡ n = omega arith in
    format-leaves m 0 (record { known = omega arith; size = record { whole = omega arith; least = omega arith; most = omega arith } }) ∙ ap (format 6) p
