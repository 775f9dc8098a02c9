-- What sound memory says of the child at an address, where prepare or collect is not refused. Assumes nothing.
use mathlib.Core.Path.{◌≡◌, refl, sym, ap, ◌∙◌}
use mathlib.Core.Logic.{◌≢◌}
use mathlib.Core.List.{List, [], ◌∷◌}
use Prim.Native.Nat.{ℕ, suc, ◌+◌, ◌-◌, ◌*◌, ◌≤◌, ◌<◌}
use native.Mathlib.Nat.{mul-le-mul_right, suc-mul}
use native.Mathlib.Omega.{arith}
use borrow.Author.Tests.{eqb-true, eqb-false, not-false}
use lib.ListN.{length, get_or}
use Rattle.memory.specs.Geometry.{page_words, page_of, directory_index}
use Rattle.memory.specs.Words.{index, word}
use Rattle.memory.specs.Partition.{pages, current, directory, shadow1, shadow2, list, threes, mapping, lent, table_for}
use Rattle.memory.specs.Tree.{Virtual, Child, InTree, child as below}
use Rattle.memory.specs.Uses.{Use, five}
use Rattle.memory.specs.Sound.{Sound}
use Rattle.memory.proofs.Geometry.{page-address, directory_index-lt}
use Rattle.memory.proofs.Widths.{words-least}
use Rattle.soundness.specs.Test.{sound_test}
use Rattle.soundness.proofs.Whole.{test-sound, mapped-has, flat}
use Rattle.rules.specs.Call.{prepare, collect}
use Rattle.rules.specs.Conditions.{bad_page, child}
use Rattle.rules.specs.Refusals.{refusals, refusal}
use Rattle.rules.specs.Effects.{three_place}
use Rattle.rules.proofs.Rows.{passed}
use Rattle.rules.proofs.steps.Checks.{false_or}
use Rattle.moves.proofs.Child.{good-virtual, is-child, few-listed}
use Rattle.threes.proofs.ListLaws.{place_found}
use Rattle.threes.specs.Standing.{Standing}

same-five : {i j : ℕ} → five i ≡ five j → i ≡ j
same-five e = cc

-- ---- a child of a partition of the tree

module _ (b : ℕ) (m : List ℕ) (s : Sound b m) (n d : ℕ) (t : InTree b m n d) (v k : ℕ) (a : Child b m d v k) where
  -- page j of the five, from the directory on
  own-some : (j : ℕ) → j < 5 → 0 < page_of b (word b m k (2 * j + 1))
  own-some j h =
      let r = ((s.children n d t).right v k a).five j h in
      let u = ((s.forms (suc n) k (below t a)).descriptor.pairs j h).0 in
      let q : page_of b (word b m k (2 * j + 1)) ≡ page_of b (mapping b m d (word b m k (2 * j))) =
      ap (page_of b) (sym r.1) ∙ page-address b (page_of b (mapping b m d (word b m k (2 * j)))) in
      omega (arith, q, flat b m s t (word b m k (2 * j)) (mapped-has b m d (word b m k (2 * j)) u r.0) r.0)

  own-inside : (j : ℕ) → j < 5 → page_of b (word b m k (2 * j + 1)) < pages b m
  own-inside j h = ((s.forms (suc n) k (below t a)).descriptor.pairs j h).1.1

  abbrev used : (i p : ℕ) → i < 5 → get_or (k ∷ directory b m k ∷ shadow1 b m k ∷ shadow2 b m k ∷ list b m k ∷ []) i 0 ≡ p → Use b m p
  used i p h e = record { depth = suc n; part = k; way = five i; tree = below t a; used = (h, e) }

  -- two of the five that are one page would be one use
  apart : (i : ℕ) → i < 4 → get_or (k ∷ directory b m k ∷ shadow1 b m k ∷ shadow2 b m k ∷ list b m k ∷ []) i 0 ≢ list b m k
  apart i h e =
      let q : five i ≡ five 4 = (s.uses.one (list b m k) (own-some 4 (omega arith)) (own-inside 4 (omega arith)) (used i (list b m k) (omega arith) e) (used 4 (list b m k) (omega arith) refl)).1 in
      omega (arith, same-five q)

  inside : 6 ≤ b → index b (list b m k) 61 ≤ length m
  inside wide =
      omega (arith, s.header.size, words-least b wide, mul-le-mul_right (page_words b) (own-inside 4 (omega arith)), suc-mul (list b m k) (page_words b))

  -- the three for an address is found in the list
  module _ (u : ℕ) (hu : Virtual b u) (hn : table_for b m k u ≢ 0) where
    column : directory_index b (page_of b u) < page_words b
    column = directory_index-lt b u hu.1

    place-lt : three_place b m k u < threes b m k
    place-lt =
        let (j, (l, st), o) = (s.threes (suc n) k (below t a)).listed (directory_index b (page_of b u)) column hn in
        let e : word b m (list b m k) (2 + 6 * j) ≡ table_for b m k u - 1 = omega (arith, st.0) in
        omega (arith, place_found b m (list b m k) (table_for b m k u - 1) (threes b m k) 0 j (omega arith) (omega arith) e)

    standing : 6 ≤ b → Standing b m k u
    standing wide =
        let f = (s.forms (suc n) k (below t a)).list in
        record {
          table = omega arith;
          listed = record { inside = inside wide; few = omega (arith, f.free, f.few); three = omega (arith, place-lt, f.free) };
          column = column;
          directory_apart = apart 1 (omega arith);
          shadow1_apart = apart 2 (omega arith);
          shadow2_apart = apart 3 (omega arith);
        }

-- ---- the calls

pub prepare-few : (b : ℕ) (m : List ℕ) (c t p : ℕ) → refusal b m (prepare c t p) ≡ 0 → word b m (list b m (child b m c)) 0 ≤ 61
unfolding refusals
prepare-few b m c t p e =
    let r = passed (refusals b m (prepare c t p)) e in
    few-listed b m c (not-false (sound_test b m) r.0) (false_or (bad_page b c) _ r.1.0).0 r.1.1.0

pub collect-stands : (b : ℕ) (m : List ℕ) (c t : ℕ) → 6 ≤ b → refusal b m (collect c t) ≡ 0 → Standing b m (child b m c) t
unfolding refusals
collect-stands b m c t wide e =
    let r = passed (refusals b m (collect c t)) e in
    let g = false_or (bad_page b c) _ r.1.0 in
    let s = test-sound b m (not-false (sound_test b m) r.0) in
    let (k, i) = s.current_in in
    let a = is-child b m s k (current b m) i c (good-virtual b c g.0) (eqb-true (lent b m (current b m) c) 1 (not-false _ r.1.1.0)) in
    standing b m s k (current b m) i c (child b m c) a t (good-virtual b t (false_or (bad_page b t) _ g.1).0) (eqb-false _ _ r.1.1.1.0) wide
