-- The widths of the editions, and the edition of a width and of a memory. Assumes nothing.
use mathlib.Core.Path.{◌≡◌, refl, sym, ap, ◌∙◌}
use mathlib.Core.Logic.{◌≢◌}
use mathlib.Core.List.{List}
use mathlib.Core.Bool.{Bool, true, false, cond}
use Prim.Native.Nat.{ℕ, zero, suc, ◌+◌, ◌≤◌, ◌<◌}
use native.Mathlib.Nat.{zero-mul}
use native.Mathlib.Omega.{arith}
use borrow.Author.Tests.{eq-eqb, ne_eqb, lt-ltb, le-ltb}
use lib.Dec.{ltb}
use lib.ListN.{length, get_or}
use Rattle.walk.specs.Reflect.{lt?}
use Rattle.memory.specs.Geometry.{widths, width_of, edition_of, page_words}
use Rattle.memory.specs.Words.{word}
use Rattle.memory.specs.Edition.{edition}

pub wide_of : (e : ℕ) → e < length widths → 6 ≤ width_of e
wide_of zero l = omega arith
wide_of (suc zero) l = omega arith
wide_of (suc (suc e)) l = absurd (omega arith)

pub narrow_of : (e : ℕ) → e < length widths → width_of e ≤ 10
narrow_of zero l = omega arith
narrow_of (suc zero) l = omega arith
narrow_of (suc (suc e)) l = absurd (omega arith)

module _ (b : ℕ) where
  pub new-width : b ≢ 6 → 1 ≡ edition_of b
  unfolding edition_of
  new-width n = ap (λ (t : Bool). cond t 0 1) (sym (ne_eqb b 6 n))

  pub old-width : b ≡ 6 → 0 ≡ edition_of b
  unfolding edition_of
  old-width e = ap (λ (t : Bool). cond t 0 1) (sym (eq-eqb b 6 e))

-- an edition is that of its width
pub edition_of_width : (e : ℕ) → e < length widths → edition_of (width_of e) ≡ e
unfolding edition_of
edition_of_width zero l = refl
edition_of_width (suc zero) l = refl
edition_of_width (suc (suc e)) l = absurd (omega arith)

module _ (m : List ℕ) where
  -- word 5 names an edition
  pub edition-named : get_or m 5 0 < length widths → edition m ≡ get_or m 5 0
  unfolding edition
  edition-named l = ap (λ (t : Bool). cond t (get_or m 5 0) 0) (lt-ltb (get_or m 5 0) (length widths) l)

  pub edition-unnamed : length widths ≤ get_or m 5 0 → edition m ≡ 0
  unfolding edition
  edition-unnamed l = ap (λ (t : Bool). cond t (get_or m 5 0) 0) (le-ltb (get_or m 5 0) (length widths) l)

  pub edition-known : edition m < length widths
  unfolding edition
  edition-known = go (ltb (get_or m 5 0) (length widths)) refl
    where
      go : (t : Bool) → ltb (get_or m 5 0) (length widths) ≡ t → cond t (get_or m 5 0) 0 < length widths
      go true e = lt?.0 e
      go false e = omega arith

  -- memory whose word 5 is the edition of e's width is read as of e
  pub edition-read : (e : ℕ) → e < length widths → word (width_of e) m 0 5 ≡ edition_of (width_of e) → edition m ≡ e
  edition-read e l h =
      let n : get_or m 5 0 ≡ e = ap (λ (i : ℕ). get_or m (i + 5) 0) (sym (zero-mul (page_words (width_of e)))) ∙ h ∙ edition_of_width e l in
      edition-named (omega (arith, n, l)) ∙ n
