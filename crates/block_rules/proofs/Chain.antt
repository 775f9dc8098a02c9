-- The pieces that cut and merge are about, before the call. "The lower part of a cut keeps the number, and so does the lower of two merged": l is the lower
-- block, in hand, and h the slot of the higher one, which is free before a cut. Assumes nothing.
use mathlib.Core.Path.{◌≡◌, refl, sym, ap, ◌∙◌}
use mathlib.Core.List.{List}
use mathlib.Core.Logic.{◌≢◌}
use Prim.Native.Nat.{ℕ}
use native.Mathlib.Omega.{arith}
use native.Mathlib.Decide.{ℕ_discrete}
use Rattle.block_memory.specs.Partition.{Partition, Has, start, end, used, previous, next}
use Rattle.block_memory.specs.Bytes.{Live}
use Rattle.block_memory.specs.Sound.{Sound}
use Rattle.block_soundness.proofs.Ranges.{has-range}
use Rattle.block_soundness.proofs.Blocks.{used_as, block, number-some, after, long}

-- the last of them: l where slot h is free, h where it has the piece after l, in hand too
pub data Last (m : List ℕ) (d l h : ℕ) : ℕ → Type 0 where
  one : used m d h ≡ 0 → Last m d l h l
  two : used m d h ≡ 1 → next m d l ≡ h → Last m d l h h

module _ (m : List ℕ) (s : Sound m) where
  not-next : {d n : ℕ} → Live m d n → n ≢ next m d n
  not-next {d} {n} l e = elim (ℕ_discrete (next m d n) 0) [
    | yes z ↦ omega (arith, number-some m s l, e, z)
    | no z ↦ omega (arith, long m s l, ((block m s l).pieces.more z).adjoins, ap (start m d) e)
  ]

  -- what is so in both cases: a is the last of them, and next m d a the piece after, if any
  pub record Chain (d l h a : ℕ) : Type 0 where
    pub hand : used m d l ≡ 1
    pub lower : Live m d l
    pub last : Live m d a
    -- l, h and the piece after are three
    pub l_h : l ≢ h
    pub l_after : l ≢ next m d a
    pub h_after : h ≢ next m d a
    -- none but l and h is the last, and none but h and the piece after comes after l
    pub is_last : (o : ℕ) → o ≢ l → o ≢ h → o ≢ a
    pub after_l : (o : ℕ) → next m d l ≡ o → o ≢ h → o ≡ next m d a
    -- if slot h has a block
    pub higher : Live m d h → (used m d h ≡ 1) × (previous m d h ≡ l) × (next m d h ≡ next m d a)

  pub chain : (d l h : ℕ) {a : ℕ} → Partition m d → used m d l ≡ 1 → Has m d h → Last m d l h a → Chain d l h a
  chain d l h p hand has (one free) =
      let x : Live m d l = used_as p hand in
      record {
        hand = hand;
        lower = x;
        last = x;
        l_h = λ e. omega (arith, hand, free, ap (used m d) e);
        l_after = not-next x;
        h_after = λ e. elim (ℕ_discrete (next m d l) 0) [
          | yes z ↦ omega (arith, (has-range m d h has).0, e, z)
          | no z ↦ (after m s x z).block (sym (ap (used m d) e) ∙ free)
        ];
        is_last = λ o y z. y;
        after_l = λ o e n. sym e;
        higher = λ y. absurd (y.block free);
      }
  chain d l h p hand has (two held joined) =
      let x : Live m d l = used_as p hand in
      let y : Live m d h = used_as p held in
      let n = (block m s x).pieces.more (λ z. omega (arith, z, joined, number-some m s y)) in
      let starts : start m d h ≡ end m d l = ap (start m d) (sym joined) ∙ n.adjoins in
      record {
        hand = hand;
        lower = x;
        last = y;
        l_h = λ e. not-next x (e ∙ sym joined);
        l_after = λ e. elim (ℕ_discrete (next m d h) 0) [
          | yes z ↦ omega (arith, number-some m s x, e, z)
          | no z ↦ omega (arith, long m s x, long m s y, starts, ((block m s y).pieces.more z).adjoins, ap (start m d) e)
        ];
        h_after = not-next y;
        is_last = λ o w z. z;
        after_l = λ o e k. absurd (k (sym e ∙ joined));
        higher = λ z. (held, ap (previous m d) (sym joined) ∙ n.back, refl);
      }
