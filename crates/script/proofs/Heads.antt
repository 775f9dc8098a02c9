-- A script's header, test by test. Assumes nothing.
use mathlib.Core.Path.{◌≡◌, refl, sym, ap, ◌∙◌}
use mathlib.Core.Bool.{Bool, true, false, cond}
use mathlib.Core.List.{List}
use mathlib.Core.Option.{none, some}
use Prim.Native.Nat.{ℕ, ◌≤◌, ◌<◌}
use native.Mathlib.Omega.{arith}
use lib.Dec.{leb}
use lib.ListN.{length}
use borrow.Author.Tests.{le-leb, lt-leb}
use Rattle.walk.specs.Reflect.{Tells, both, le?}
use Rattle.memory.specs.Geometry.{most_pages}
use Rattle.rules.specs.Bytes.{word_in}
use Rattle.rules.specs.Call.{Call}
use Rattle.rules.specs.Replay.{records, script}
use Rattle.script.specs.Walk.{is_script, good_header}

module _ (b : ℕ) (bs : List ℕ) where
  pub header? : Tells (good_header b bs) ((((((12 ≤ length bs) × (length bs ≤ 4096)) × (12 ≤ word_in bs 8)) × (word_in bs 8 ≤ length bs)) × (16 ≤ word_in bs 0)) × (word_in bs 0 ≤ most_pages b))
  unfolding good_header
  header? = both (both (both (both (both le? le?) le?) le?) le?) le?

  pub script-is : script b bs ≡ cond (good_header b bs) (records (word_in bs 4) bs (word_in bs 8)) none
  unfolding script good_header
  script-is = refl

  -- a good script has a good header, and then its records
  pub good : (cs : List Call) → script b bs ≡ some cs → (good_header b bs ≡ true) × (records (word_in bs 4) bs (word_in bs 8) ≡ some cs)
  good cs e = pick (good_header b bs) refl (sym script-is ∙ e)
    where
      pick : (t : Bool) → good_header b bs ≡ t → cond t (records (word_in bs 4) bs (word_in bs 8)) none ≡ some cs → (good_header b bs ≡ true) × (records (word_in bs 4) bs (word_in bs 8) ≡ some cs)
      pick true p f = (p, f)
      pick false p f = absurd (let z : ◌≡◌ {A = ℕ} 0 1 = cc in omega arith)

  -- ---- whether there is a script

  pub no_header : good_header b bs ≡ false → is_script (script b bs) ≡ false
  unfolding is_script
  no_header e = ap is_script script-is ∙ rw e refl

  pub by_records : good_header b bs ≡ true → is_script (script b bs) ≡ is_script (records (word_in bs 4) bs (word_in bs 8))
  by_records e = ap is_script script-is ∙ rw e refl

  -- ---- the header, test by test

  pub too_short : length bs < 12 → good_header b bs ≡ false
  unfolding good_header
  too_short h = rw (lt-leb 12 (length bs) h) refl

  pub too_long : 12 ≤ length bs → 4096 < length bs → good_header b bs ≡ false
  unfolding good_header
  too_long h i = rw (le-leb 12 (length bs) h, lt-leb (length bs) 4096 i) refl

  module _ (least : 12 ≤ length bs) (most : length bs ≤ 4096) where
    pub too_early : word_in bs 8 < 12 → good_header b bs ≡ false
    unfolding good_header
    too_early h = rw (le-leb 12 (length bs) least, le-leb (length bs) 4096 most, lt-leb 12 (word_in bs 8) h) refl

    pub too_late : 12 ≤ word_in bs 8 → length bs < word_in bs 8 → good_header b bs ≡ false
    unfolding good_header
    too_late h i = rw (le-leb 12 (length bs) least, le-leb (length bs) 4096 most, le-leb 12 (word_in bs 8) h, lt-leb (word_in bs 8) (length bs) i) refl

    pub too_few : 12 ≤ word_in bs 8 → word_in bs 8 ≤ length bs → word_in bs 0 < 16 → good_header b bs ≡ false
    unfolding good_header
    too_few h i j = rw (le-leb 12 (length bs) least, le-leb (length bs) 4096 most, le-leb 12 (word_in bs 8) h, le-leb (word_in bs 8) (length bs) i, lt-leb 16 (word_in bs 0) j) refl

    pub by_most : 12 ≤ word_in bs 8 → word_in bs 8 ≤ length bs → 16 ≤ word_in bs 0 → good_header b bs ≡ leb (word_in bs 0) (most_pages b)
    unfolding good_header
    by_most h i j = rw (le-leb 12 (length bs) least, le-leb (length bs) 4096 most, le-leb 12 (word_in bs 8) h, le-leb (word_in bs 8) (length bs) i, le-leb 16 (word_in bs 0) j) refl
