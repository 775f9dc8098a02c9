-- A place in the list of the pages that a partition uses is a way in which it uses one. Assumes nothing.
use mathlib.Core.Path.{◌≡◌, refl, sym, ap, ◌∙◌}
use mathlib.Core.List.{List, ◌++◌}
use mathlib.Core.Logic.{◌≢◌}
use Prim.Native.Nat.{ℕ, zero, suc, ◌+◌, ◌-◌, ◌*◌, ◌<◌}
use native.Mathlib.Omega.{arith}
use native.Mathlib.Decide.{dec_lt}
use lib.ListN.{length, get_or, length-append, get_or-append}
use lib.Seq.{get_or-append-add}
use Rattle.walk.specs.Lists.{count, count_at, at_count, same_at}
use Rattle.memory.specs.Geometry.{page_of}
use Rattle.memory.specs.Words.{word}
use Rattle.memory.specs.Partition.{list, threes, mapping, lent}
use Rattle.memory.specs.Partition as P
use Rattle.memory.specs.Entry.{accessible}
use Rattle.walk.specs.Reflect.{Tells, eq?, both, isn't}
use Rattle.walk.specs.Finite.{from, keep, keep_in, keep-once, image-at, length-image}
use Rattle.memory.specs.Uses.{Way, five, listed, in_hand, UsedBy, five_pages}
use Rattle.memory.specs.Counts as C
use Rattle.soundness.specs.Test as T
use Rattle.soundness.proofs.Places.{tabled-is, tabled-once}

pub length_from : (n i : ℕ) → length (from n i) ≡ n
unfolding from
length_from zero i = refl
length_from (suc n) i = ap suc (length_from n (suc i))

pub from_at : (n i j : ℕ) → j < n → get_or (from n i) j 0 ≡ i + j
unfolding from
from_at zero i j h = absurd (omega arith)
from_at (suc n) i zero h = omega arith
from_at (suc n) i (suc j) h = from_at n (suc i) j (omega arith) ∙ omega arith

module _ (b : ℕ) (m : List ℕ) (d : ℕ) where
  abbrev hands : List ℕ
  hands = keep (P.in_hand b m d) (C.tabled b m d)

  handed? : (v : ℕ) → Tells (P.in_hand b m d v) (((mapping b m d v ≢ 0) × (accessible (mapping b m d v) ≡ 1)) × (lent b m d v ≡ 0))
  handed? v = both (both (isn't eq?) eq?) eq?

  five-length : length (five_pages b m d) ≡ 5
  five-length = refl

  pub listed-length : length (T.listed_pages b m d) ≡ 3 * threes b m d
  unfolding T.listed_pages
  listed-length = length-image _ (from (3 * threes b m d) 0) ∙ length_from (3 * threes b m d) 0

  pub listed_at : (j : ℕ) → j < 3 * threes b m d → get_or (T.listed_pages b m d) j 0 ≡ page_of b (word b m (list b m d) (2 + 2 * j))
  unfolding T.listed_pages
  listed_at j h =
      let e : get_or (from (3 * threes b m d) 0) j 0 ≡ j = from_at (3 * threes b m d) 0 j h ∙ omega arith in
      image-at (λ k. page_of b (word b m (list b m d) (2 + 2 * k))) (from (3 * threes b m d) 0) j (omega (arith, length_from (3 * threes b m d) 0))
      ∙ ap (λ (k : ℕ). page_of b (word b m (list b m d) (2 + 2 * k))) e

  hand-length : length (T.hand_pages b m d) ≡ length hands
  unfolding T.hand_pages C.hand_addresses
  hand-length = length-image _ hands

  hand_at : (i : ℕ) → i < length hands → get_or (T.hand_pages b m d) i 0 ≡ page_of b (mapping b m d (get_or hands i 0))
  unfolding T.hand_pages C.hand_addresses
  hand_at i h = image-at (λ v. page_of b (mapping b m d v)) hands i h

  pub own-length : length (T.own b m d) ≡ 5 + 3 * threes b m d + length hands
  unfolding T.own
  own-length = omega (arith, length-append (five_pages b m d ++ T.listed_pages b m d) (T.hand_pages b m d), length-append (five_pages b m d) (T.listed_pages b m d), five-length, listed-length, hand-length)

  pub front : length (five_pages b m d ++ T.listed_pages b m d) ≡ 5 + 3 * threes b m d
  front = omega (arith, length-append (five_pages b m d) (T.listed_pages b m d), five-length, listed-length)

  pub own-five : (j : ℕ) → j < 5 → get_or (T.own b m d) j 0 ≡ get_or (five_pages b m d) j 0
  unfolding T.own
  own-five j h = get_or-append (five_pages b m d ++ T.listed_pages b m d) (T.hand_pages b m d) 0 j (omega (arith, front)) ∙ get_or-append (five_pages b m d) (T.listed_pages b m d) 0 j h

  pub own-listed : (j : ℕ) → j < 3 * threes b m d → get_or (T.own b m d) (5 + j) 0 ≡ page_of b (word b m (list b m d) (2 + 2 * j))
  unfolding T.own
  own-listed j h =
      get_or-append (five_pages b m d ++ T.listed_pages b m d) (T.hand_pages b m d) 0 (5 + j) (omega (arith, front))
      ∙ get_or-append-add (five_pages b m d) (T.listed_pages b m d) j 0
      ∙ listed_at j h

  own-hand : (i : ℕ) → i < length hands → get_or (T.own b m d) (5 + 3 * threes b m d + i) 0 ≡ page_of b (mapping b m d (get_or hands i 0))
  unfolding T.own
  own-hand i h =
      ap (λ (k : ℕ). get_or ((five_pages b m d ++ T.listed_pages b m d) ++ T.hand_pages b m d) (k + i) 0) (sym front)
      ∙ get_or-append-add (five_pages b m d ++ T.listed_pages b m d) (T.hand_pages b m d) i 0
      ∙ hand_at i h

  pub own-self : 0 < count d (T.own b m d)
  own-self = count_at d (T.own b m d) 0 (omega (arith, own-length)) (own-five 0 (omega arith))

  -- place i of the list is this way
  abbrev pub IsWay : ℕ → Way → Type 0
  IsWay i (five j) = (j < 5) × (i ≡ j)
  IsWay i (listed j) = (j < 3 * threes b m d) × (i ≡ 5 + j)
  IsWay i (in_hand v) = (k : ℕ) × (k < length hands) × (i ≡ 5 + 3 * threes b m d + k) × (get_or hands k 0 ≡ v)

  pub way_of : (i p : ℕ) → i < length (T.own b m d) → get_or (T.own b m d) i 0 ≡ p → (w : Way) × IsWay i w × UsedBy b m d w p
  way_of i p h e = elim (dec_lt i 5) [
    | yes a ↦ (five i, (a, refl), (a, sym (own-five i a) ∙ e))
    | no n ↦ elim (dec_lt i (5 + 3 * threes b m d)) [
      | yes a ↦ in_list n a
      | no k ↦ in_hands k
    ]
  ]
    where
      in_list : ¬ (i < 5) → i < 5 + 3 * threes b m d → (w : Way) × IsWay i w × UsedBy b m d w p
      in_list n a =
          let j = i - 5 in
          let l : i - 5 < 3 * threes b m d = omega arith in
          let q : i ≡ 5 + (i - 5) = omega arith in
          (listed (i - 5), (l, q), (l, sym (own-listed (i - 5) l) ∙ ap (λ (x : ℕ). get_or (T.own b m d) x 0) (sym q) ∙ e))

      in_hands : ¬ (i < 5 + 3 * threes b m d) → (w : Way) × IsWay i w × UsedBy b m d w p
      in_hands n =
          let k = i - (5 + 3 * threes b m d) in
          let l : i - (5 + 3 * threes b m d) < length hands = omega (arith, own-length) in
          let q : i ≡ 5 + 3 * threes b m d + (i - (5 + 3 * threes b m d)) = omega arith in
          let v = get_or hands (i - (5 + 3 * threes b m d)) 0 in
          let (a, t) = (keep_in (P.in_hand b m d) v (C.tabled b m d)).0 (count_at v hands (i - (5 + 3 * threes b m d)) l refl) in
          let ((x, y), z) = (handed? v).0 t in (
            in_hand v,
            (i - (5 + 3 * threes b m d), l, q, refl),
            ((tabled-is b m d v).0 a, x, y, z, sym (own-hand (i - (5 + 3 * threes b m d)) l) ∙ ap (λ (r : ℕ). get_or (T.own b m d) r 0) (sym q) ∙ e),
          )

  pub of_way : (w : Way) (p : ℕ) → UsedBy b m d w p → (i : ℕ) × (i < length (T.own b m d)) × (get_or (T.own b m d) i 0 ≡ p) × IsWay i w
  of_way (five j) p (h, e) = (j, omega (arith, own-length), own-five j h ∙ e, (h, refl))
  of_way (listed j) p (h, e) = (5 + j, omega (arith, own-length), own-listed j h ∙ e, (h, refl))
  of_way (in_hand v) p (h, x, y, z, e) =
      let (k, l, q) = at_count v hands ((keep_in (P.in_hand b m d) v (C.tabled b m d)).1 ((tabled-is b m d v).1 h, (handed? v).1 ((x, y), z))) in
      (5 + 3 * threes b m d + k, omega (arith, own-length), own-hand k l ∙ ap (λ (u : ℕ). page_of b (mapping b m d u)) q ∙ e, (k, l, refl, q))

  -- one place, one way; one way, one place
  pub same_way : (i : ℕ) (w x : Way) → IsWay i w → IsWay i x → w ≡ x
  same_way i (five j) (five k) (h, e) (l, f) = ap five (sym e ∙ f)
  same_way i (five j) (listed k) (h, e) (l, f) = absurd (omega arith)
  same_way i (five j) (in_hand v) (h, e) (k, l, f, q) = absurd (omega arith)
  same_way i (listed j) (five k) (h, e) (l, f) = absurd (omega arith)
  same_way i (listed j) (listed k) (h, e) (l, f) = ap listed (omega arith)
  same_way i (listed j) (in_hand v) (h, e) (k, l, f, q) = absurd (omega arith)
  same_way i (in_hand v) (five k) (n, l, f, q) (h, e) = absurd (omega arith)
  same_way i (in_hand v) (listed k) (n, l, f, q) (h, e) = absurd (omega arith)
  same_way i (in_hand v) (in_hand u) (n, l, f, q) (k, h, e, r) = let s : n ≡ k = omega arith in ap in_hand (sym q ∙ ap (λ (x : ℕ). get_or hands x 0) s ∙ r)

  pub same_place : (i j : ℕ) (w : Way) → IsWay i w → IsWay j w → i ≡ j
  same_place i j (five k) (h, e) (l, f) = e ∙ sym f
  same_place i j (listed k) (h, e) (l, f) = e ∙ sym f
  same_place i j (in_hand v) (n, l, f, q) (k, h, e, r) =
      let s : n ≡ k = same_at v hands (keep-once (P.in_hand b m d) v (C.tabled b m d) (tabled-once b m d v)) n k l h q r in
      omega arith
