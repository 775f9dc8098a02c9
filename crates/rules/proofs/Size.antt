-- Refusal 2's tests decide whether the memory has a permitted length, and sound memory has one. Assumes nothing.
use mathlib.Core.Path.{◌≡◌, refl, sym, ap, ◌∙◌}
use mathlib.Core.Logic.{◌⊎◌, inl, inr}
use mathlib.Core.List.{List}
use mathlib.Core.Bool.{Bool, true, false, not}
use Prim.Native.Nat.{ℕ, ◌*◌, ◌/◌, ◌≤◌, ◌<◌}
use native.Mathlib.Nat.{mul-div_left}
use native.Mathlib.Decide.{ℕ_discrete}
use native.Mathlib.Omega.{arith}
use borrow.Author.Tests.{not-true}
use lib.ListN.{length}
use lib.Pow.{pow_pos}
use Rattle.walk.specs.Reflect.{Tells, eq?, le?, lt?, either, isn't}
use Rattle.memory.specs.Geometry.{widths, width_of, page_words, least_pages, most_pages}
use Rattle.memory.specs.Partition.{pages}
use Rattle.memory.specs.Sound.{Header}
use Rattle.rules.specs.Call.{format_all}
use Rattle.rules.specs.Conditions.{pages_in, wrong_size, unfit}
use Rattle.rules.specs.Refusals.{refusals}
use Rattle.rules.specs.Permitted.{Permitted, Fits}
use Rattle.rules.proofs.Rows.{First, none, on, at}

module _ (b : ℕ) (m : List ℕ) where
  -- what refusal 2 says of the length
  abbrev Wrong : Type 0
  Wrong = (¬ (length m ≡ pages_in b m * page_words b) ⊎ (pages_in b m < least_pages)) ⊎ (most_pages b < pages_in b m)

  right-size : ¬ Wrong → Permitted b m
  right-size n = record {
    whole = elim (ℕ_discrete (length m) (pages_in b m * page_words b)) [ yes e ↦ e | no f ↦ absurd (n (inl (inl f))) ];
    least = let h : ¬ (pages_in b m < least_pages) = λ l. n (inl (inr l)) in omega arith;
    most = let h : ¬ (most_pages b < pages_in b m) = λ l. n (inr l) in omega arith;
  }

  not_wrong : Permitted b m → ¬ Wrong
  not_wrong p (inl (inl f)) = f p.whole
  not_wrong p (inl (inr l)) = omega (arith, l, p.least)
  not_wrong p (inr l) = omega (arith, l, p.most)

  wrong? : Tells (wrong_size b m) Wrong
  wrong? = either (either (isn't eq?) lt?) lt?

  -- a sound header counts the pages that there are
  pub counted-pages : Header b m → pages_in b m ≡ pages b m
  counted-pages h = ap (λ (x : ℕ). x / page_words b) h.size ∙ mul-div_left (pages b m) (pow_pos b)

  pub header-permitted : Header b m → Permitted b m
  header-permitted h =
      let e = counted-pages h in
      record {
        whole = h.size ∙ ap (λ (x : ℕ). x * page_words b) (sym e);
        least = omega (arith, e, h.least);
        most = omega (arith, e, h.most);
      }

-- ---- format's row, on memory that is read by any width b

module _ (m : List ℕ) (e : ℕ) where
  unfit? : Tells (unfit e m) ((length widths ≤ e) ⊎ Wrong (width_of e) m)
  unfit? = either le? (wrong? (width_of e) m)

  pub fits : unfit e m ≡ false → Fits e m
  fits h =
      let n : ¬ ((length widths ≤ e) ⊎ Wrong (width_of e) m) = (isn't unfit?).0 (ap not h) in
      record { known = let k : ¬ (length widths ≤ e) = λ l. n (inl l) in omega arith; size = right-size (width_of e) m (λ w. n (inr w)) }

  pub fit : Fits e m → unfit e m ≡ false
  fit f = not-true _ ((isn't unfit?).1 no)
    where
      no : ¬ ((length widths ≤ e) ⊎ Wrong (width_of e) m)
      no (inl l) = omega (arith, l, f.known)
      no (inr w) = not_wrong (width_of e) m f.size w

  pub unfitting : ¬ Fits e m → unfit e m ≡ true
  unfitting n = go (unfit e m) refl
    where
      go : (t : Bool) → unfit e m ≡ t → unfit e m ≡ true
      go true h = h
      go false h = absurd (n (fits h))

  module _ (b : ℕ) where
    pub passes : Fits e m → First (refusals b m (format_all e)) 0
    unfolding refusals
    passes f = on (fit f) none

    pub refused : ¬ Fits e m → First (refusals b m (format_all e)) 2
    unfolding refusals
    refused n = at (unfitting n)
